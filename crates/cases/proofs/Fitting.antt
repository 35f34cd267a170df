-- A case fits where the tests of it pass.
use Rattle.std.proofs.Common.{◌≡◌, ℕ, zero, suc, ◌≤◌, min, Bool, true, false, ◌&&◌, eqb, leb, List, [], ◌∷◌, length, get_or, Some, None, Decides, Option, sym, refl, ap, ◌∙◌, subst, true≢false, arith}
use Rattle.std.proofs.lemmas.Bool.{eqb-true, eq-eqb, leb-true, and_parts}
use Rattle.automata.specs.declared.faults.SignFault.{SignFault}
use Rattle.automata.specs.Signs.{sign_fault}
use Rattle.automata.specs.Tests.{every}
use Rattle.automata.specs.Drafts.{size, letters, fresh}
use Rattle.automata.proofs.SetLaws.{set_bits}
use Rattle.drafts.specs.Calls.{outcomes}
use Rattle.drafts.proofs.ListLaws.{call_laws_lem}
use Rattle.machines.specs.Models.{MachineModel}
use Rattle.machines.specs.Tables.{TableModel, count}
use Rattle.machines.specs.Built.{Built}
use Rattle.machines.proofs.OneTable.{one_table}
use Rattle.machines.proofs.Counting.{built-most}
use Rattle.views.specs.declared.states.Reached.{Reached}
use Rattle.views.specs.DraftViews.{forward_draft_model}
use Rattle.views.specs.Those.{those, reached_set}
use Rattle.pressing.specs.declared.judging.Verdict.TheVariants.{Atomic}
use Rattle.cases.specs.Cases.{Case, draft_of, all_ok, Fits, AllFit, cases}
use Rattle.cases.proofs.Walking.{every-at, explored, explored_table, walks, walks_built}
use Rattle.cases.proofs.Painting.{same_codes, codes-told, code_machine, draft_coding, table_coding}
use Rattle.cases.proofs.Judging.{judges}
use Rattle.cases.proofs.Answering.{all_reads, all_read}
use Rattle.cases.proofs.Presses.{shown-states, enough, back_is, last_is, judged_is}

abbrev same_sets : Reached → Reached → Bool
same_sets s r = eqb s.set.bits r.set.bits

sets_told : (s r : Reached) → Decides (same_sets s r) (s ≡ r)
sets_told s r = (
  λ e. ap reached_set (set_bits s.set r.set (eqb-true s.set.bits r.set.bits e)),
  λ e. eq-eqb s.set.bits r.set.bits (ap (λ (x : Reached). x.set.bits) e),
)

abbrev all_pass : List Bool → Bool
all_pass [] = true
all_pass (x ∷ xs) = x && all_pass xs

pass_at : (xs : List Bool) → all_pass xs ≡ true → (i : ℕ) → get_or xs i true ≡ true
pass_at [] e i = refl
pass_at (x ∷ xs) e zero = (and_parts x (all_pass xs) e).0
pass_at (x ∷ xs) e (suc i) = pass_at xs (and_parts x (all_pass xs) e).1 i

-- what there is room for is not too many
too_few : (n room : ℕ) → n ≤ room → n ≤ 128 → suc (min 128 room) ≤ n → ⊥
too_few n room h few many = omega arith

module _ (c : Case) (ok : sign_fault (draft_of c).signs ≡ None) where
  -- the draft backward, on lists of codes, and its table
  abbrev back_of : MachineModel (List ℕ)
  back_of = code_machine (draft_of c).signs ok (draft_coding c.kind (draft_of c))

  abbrev back_table : TableModel
  back_table = explored_table same_codes back_of

  abbrev back_states : List (List ℕ)
  back_states = (explored same_codes back_of).states

  -- that table backward
  abbrev last_of : MachineModel (List ℕ)
  last_of = code_machine (draft_of c).signs ok (table_coding c.kind (letters (draft_of c)) back_table)

  abbrev last_table : TableModel
  last_table = explored_table same_codes last_of

  abbrev last_states : List (List ℕ)
  last_states = (explored same_codes last_of).states

  -- the draft forward
  abbrev once_of : MachineModel Reached
  once_of = forward_draft_model c.kind (draft_of c) ok

  abbrev once_table : TableModel
  once_table = explored_table same_sets once_of

  abbrev once_states : List Reached
  once_states = (explored same_sets once_of).states

  abbrev judges_at : ℕ → Bool
  judges_at q = judges c.kind back_states last_states q (get_or c.verdicts q Atomic)

  abbrev tests : List Bool
  tests =
      all_ok (outcomes c.kind (fresh c.signs) c.calls)
      ∷ walks same_codes back_of back_table back_states
      ∷ eqb (count back_table) c.backs
      ∷ leb (count back_table) 128
      ∷ walks same_codes last_of last_table last_states
      ∷ same_codes last_table.values c.table.values
      ∷ same_codes last_table.cells c.table.cells
      ∷ leb (count last_table) 128
      ∷ walks same_sets once_of once_table once_states
      ∷ eqb (count once_table) c.onces
      ∷ eqb (length c.verdicts) (size (draft_of c))
      ∷ every (size (draft_of c)) judges_at
      ∷ leb (count once_table) 128
      ∷ all_reads c.kind c.signs c.table c.readings
      ∷ []

  module _ (pass : all_pass tests ≡ true) where
    -- the test at i, in the order above
    at : (i : ℕ) → get_or tests i true ≡ true
    at i = pass_at tests pass i

    small : size (draft_of c) ≤ 128
    small = omega (arith, ((call_laws_lem c.kind).proper c.signs c.calls).few)

    back-built : Built back_of back_table back_states
    back-built = walks_built same_codes back_of back_table back_states codes-told (at 1)

    last_built : Built last_of last_table last_states
    last_built = walks_built same_codes last_of last_table last_states codes-told (at 4)

    once-built : Built once_of once_table once_states
    once-built = walks_built same_sets once_of once_table once_states sets_told (at 8)

    few-back : count back_table ≤ 128
    few-back = leb-true (count back_table) 128 (at 3)

    few-last : count last_table ≤ 128
    few-last = leb-true (count last_table) 128 (at 7)

    backs : count back_table ≡ c.backs
    backs = eqb-true (count back_table) c.backs (at 2)

    onces : count once_table ≡ c.onces
    onces = eqb-true (count once_table) c.onces (at 9)

    table : last_table ≡ c.table
    table = let v = (codes-told last_table.values c.table.values).0 (at 5) in let n = (codes-told last_table.cells c.table.cells).0 (at 6) in
        λ i. record { values = v i; cells = n i }

    fits : Fits c
    fits = record {
      acceptable = ok;
      accepted = at 0;
      pressed = λ back last p. (
        shown-states back.table back_table (back_is c.kind (draft_of c) ok small back-built few-back last_built back last p) ∙ backs,
        last_is c.kind (draft_of c) ok small back-built few-back last_built back last p ∙ table,
      );
      room = λ room room' h h' f x.
          enough c.kind (draft_of c) ok small back-built few-back last_built room room' (subst (λ n. n ≤ room) (sym backs) h) (subst (λ n. n ≤ room') (sym (ap count table)) h') few-last f x;
      once = λ o h. shown-states o.table once_table (one_table h.built once-built) ∙ onces;
      once_room = λ room h x. let few = leb-true (count once_table) 128 (at 12) in too_few (count once_table) room (subst (λ n. n ≤ room) (sym onces) h) few (built-most once-built (suc (min 128 room)) x);
      each = eqb-true (length c.verdicts) (size (draft_of c)) (at 10);
      judged = λ back last p q l v.
          judged_is c.kind (draft_of c) ok small back-built few-back last_built back last p q (get_or c.verdicts q Atomic) (every-at (size (draft_of c)) judges_at (at 11) q l) v;
      read = λ back last p. all_read c.kind last.table c.signs c.table
          (p.again.signs ∙ (p.built.signs ∙ (call_laws_lem c.kind).signs (fresh c.signs) c.calls))
          (last_is c.kind (draft_of c) ok small back-built few-back last_built back last p ∙ table)
          c.readings (at 13);
    }

-- the tests of a case, of which the first is that its signs have no fault
abbrev passes : (c : Case) (fault : Option SignFault) → sign_fault (draft_of c).signs ≡ fault → Bool
passes c None ok = all_pass (tests c ok)
passes c (Some f) e = false

passed_fits : (c : Case) (fault : Option SignFault) (e : sign_fault (draft_of c).signs ≡ fault) → passes c fault e ≡ true → Fits c
passed_fits c None ok pass = fits c ok pass
passed_fits c (Some f) e pass = absurd (true≢false (sym pass))

abbrev works : Case → Bool
works c = passes c (sign_fault (draft_of c).signs) refl

abbrev all_work : List Case → Bool
all_work [] = true
all_work (c ∷ cs) = works c && all_work cs

all_fit : (cs : List Case) → all_work cs ≡ true → AllFit cs
all_fit [] e = tt
all_fit (c ∷ cs) e =
    let h = and_parts (works c) (all_work cs) e in
    (passed_fits c (sign_fault (draft_of c).signs) refl h.0, all_fit cs h.1)

-- the tests of all the cases are computed
pub cases_fit : AllFit cases
unfolding those
cases_fit = all_fit cases refl
