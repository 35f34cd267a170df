-- A map of states that is one to one carries what is built.
use Rattle.std.proofs.Common.{◌≡◌, ℕ, ◌*◌, ◌<◌, List, map, length, sym, ap, ◌∙◌, subst}
use lib.ListN.{length-map}
use Rattle.std.proofs.lemmas.List.{get_or-map}
use Rattle.machines.specs.Models.{MachineModel, alphabet, Reaches}
use Rattle.machines.specs.Tables.{TableModel, count, next}
use Rattle.machines.specs.Built.{entry, Built}
use Rattle.machines.specs.BuildLaws.{Mapped}
use Rattle.machines.proofs.Walks.{ByFirstReach, Inside, Walked}
use Rattle.machines.proofs.FirstWords.{walked_built, built_walked}

module _ {S R : Type 0} {m : MachineModel S} {k : MachineModel R} {h : S → R} (f : Mapped m k h) {t : TableModel} {xs : List S} (b : Built m t xs) where
  letters : alphabet m ≡ alphabet k
  letters = ap length f.signs

  mapped-entry : (i : ℕ) → i < count t → entry k (map h xs) i ≡ h (entry m xs i)
  mapped-entry i l = get_or-map h xs i m.start k.start (rw b.states l)

  reaches : (i : ℕ) → i < count t → Reaches m (entry m xs i)
  reaches i l = let w = b.reached i l in (w.0, w.1.0, w.1.1)

  mapped-walked : Walked k t (map h xs)
  mapped-walked = record {
    states = length-map xs h ∙ b.states;
    sized = b.sized ∙ ap (λ n. count t * n) letters;
    some = b.some;
    first = mapped-entry 0 b.some ∙ ap h (built_walked b).first ∙ f.start;
    apart = λ i j l g e. b.apart i j l g (f.apart (entry m xs i) (entry m xs j) (reaches i l) (reaches j g) (sym (mapped-entry i l) ∙ e ∙ mapped-entry j g));
    order = subst (λ n. ByFirstReach n t) letters (built_walked b).order;
    inside = subst (λ n. Inside n t) letters b.inside;
    moves = λ i a l g.
        let g' : a < alphabet m = rw letters g in
        ap (λ s. k.step s a) (mapped-entry i l)
        ∙ sym (f.step (entry m xs i) a (reaches i l) g')
        ∙ ap h (b.moves i a l g')
        ∙ sym (mapped-entry (next (alphabet m) t i a) (b.inside i a l g'))
        ∙ ap (λ n. entry k (map h xs) (next n t i a)) letters;
    values = λ i l. b.values i l ∙ f.value (entry m xs i) (reaches i l) ∙ ap k.value (sym (mapped-entry i l));
  }

  pub mapped-built : Built k t (map h xs)
  mapped-built = walked_built mapped-walked
