-- The laws of draft text.
use Rattle.std.proofs.Common.{◌≡◌, ℕ, ◌≤◌, leb, List, [], ◌∷◌, length, None, Ok, Err, Result, sym, refl, ap, ◌∙◌, subst}
use Rattle.std.proofs.lemmas.Bool.{leb-true, cond_both}
use Rattle.fields.specs.Pieces.{ended, AllFree}
use Rattle.drafts.specs.declared.calls.Call.{Call}
use Rattle.automata.specs.Signs.{sign_fault}
use Rattle.automata.specs.Drafts.{DraftModel, fresh}
use Rattle.drafts.specs.Calls.{after_all, outcomes}
use Rattle.drafts.specs.Canonical.{Proper, redrawn}
use Rattle.drafts.specs.CallLaws.{AllOk}
use Rattle.drafts.proofs.ListLaws.{call_laws_lem}
use Rattle.texts.specs.declared.letters.KindLetter.{KindLetter}
use Rattle.texts.specs.declared.faults.LineFault.{LineFault}
use Rattle.texts.specs.declared.faults.TextFault.{TextFault}
use Rattle.texts.specs.declared.faults.TextFault.TheVariants.{TooLong, NoEnd}
use Rattle.texts.specs.Grammar.{kind_of, line_of, head_fields, AllHaveLines, spelled, written}
use Rattle.texts.specs.Reading.{then, at_line, head_of_line, draft_after_lines, Drawn, as_drawn, read_all, lines_in, line_ended, read_text}
use Rattle.texts.specs.TextLaws.{ReadsBack, Spells, TextLaws}
use Rattle.texts.proofs.Texts.{lines-ended, ended_some, lines-rejoined, text-lines, all_head}
use Rattle.texts.proofs.Spelled.{fault_not_ok, head_reads, head_spelled, SpellsHead, call_line_free, head_line_free}
use Rattle.texts.proofs.Writable.{redrawn-lines, value_small}
use Rattle.texts.proofs.Drawn.{call_lines, lines-read, Draws, lines-drawn}

-- ---- what is spelled is read

call_lines-free : (signs : List ℕ) → sign_fault signs ≡ None → (cs : List Call) → AllHaveLines signs cs → AllFree 10 (call_lines signs cs)
call_lines-free signs ok [] h = tt
call_lines-free signs ok (c ∷ cs) h = (call_line_free signs ok c h.0, call_lines-free signs ok cs h.1)

module _ (k : KindLetter) (signs : List ℕ) (ok : sign_fault signs ≡ None) (cs : List Call) (h : AllHaveLines signs cs) where
  -- the lines of a spelling
  pub spelled-lines : lines_in (spelled k signs cs) ≡ line_of (head_fields k signs) ∷ call_lines signs cs
  spelled-lines = lines-ended (line_of (head_fields k signs) ∷ call_lines signs cs) (head_line_free signs ok k, call_lines-free signs ok cs h)

  all_read : AllOk (outcomes (kind_of k) (fresh signs) cs)
      → read_all (line_of (head_fields k signs) ∷ call_lines signs cs) ≡ Ok (k, after_all (kind_of k) (fresh signs) cs)
  all_read a =
      all_head (line_of (head_fields k signs)) (call_lines signs cs) k signs (head_reads k signs ok)
      ∙ ap (as_drawn k) (lines-read (kind_of k) signs ok 2 (fresh signs) cs refl h a)

  pub spelled-read : AllOk (outcomes (kind_of k) (fresh signs) cs) → length (spelled k signs cs) ≤ 32768
      → read_text (spelled k signs cs) ≡ Ok (k, after_all (kind_of k) (fresh signs) cs)
  spelled-read a short =
      text-lines (spelled k signs cs) short (ended_some (line_of (head_fields k signs)) (call_lines signs cs)) ∙ (ap read_all spelled-lines ∙ all_read a)

pub spells_read : (text : List ℕ) (k : KindLetter) (d : DraftModel) → Spells text k d → read_text text ≡ Ok (k, d)
spells_read text k d s =
    ap read_text s.spelling
    ∙ (spelled-read k s.signs s.accepted s.calls s.lines s.done (subst (λ (t : List ℕ). length t ≤ 32768) s.spelling s.short)
    ∙ ap (λ (e : DraftModel). Ok (k, e)) (sym s.drawn))

-- ---- what is read is spelled

-- the lines spell a kind, acceptable signs and calls that draw d
abbrev pub LinesSpell : List (List ℕ) → KindLetter → DraftModel → Type 0
LinesSpell [] k d = ⊥
LinesSpell (l ∷ ls) k d = (signs : List ℕ) × SpellsHead l k signs × Draws (kind_of k) signs (fresh signs) ls d

drawn_ok : (j : KindLetter) (r : Result DraftModel TextFault) (k : KindLetter) (d : DraftModel) → as_drawn j r ≡ Ok (k, d) → (j ≡ k) × (r ≡ Ok d)
drawn_ok j (Ok e) k d h =
    let p : ◌≡◌ {A = Drawn} (j, e) (k, d) = cc in
    (ap (λ (x : Drawn). x.0) p, ap (λ (x : Drawn). Ok x.1) p)
drawn_ok j (Err x) k d h = absurd (fault_not_ok _ (k, d) h)

lines_spell : (ls : List (List ℕ)) (k : KindLetter) (d : DraftModel) → read_all ls ≡ Ok (k, d) → LinesSpell ls k d
lines_spell [] k d h = absurd (fault_not_ok _ (k, d) h)
lines_spell (l ∷ ls) k d h = go (head_of_line l) refl h
  where
    go : (r : Result (KindLetter × List ℕ) LineFault) → head_of_line l ≡ r
        → then (at_line 1 r) (λ p. as_drawn p.0 (draft_after_lines (kind_of p.0) 2 (fresh p.1) ls)) ≡ Ok (k, d) → LinesSpell (l ∷ ls) k d
    go (Ok p) q h =
        let o = drawn_ok p.0 (draft_after_lines (kind_of p.0) 2 (fresh p.1) ls) k d h in
        let reads : draft_after_lines (kind_of k) 2 (fresh p.1) ls ≡ Ok d = sym (ap (λ (j : KindLetter). draft_after_lines (kind_of j) 2 (fresh p.1) ls) o.0) ∙ o.1 in
        (p.1, subst (λ (j : KindLetter). SpellsHead l j p.1) o.0 (head_spelled l p.0 p.1 q), lines-drawn (kind_of k) p.1 2 (fresh p.1) ls d refl reads)
    go (Err x) q h = absurd (fault_not_ok _ (k, d) h)

-- a text that is these lines, each ended by a newline, spells what they spell
text_spells : (text : List ℕ) (k : KindLetter) (d : DraftModel) → length text ≤ 32768 → (ls : List (List ℕ)) → text ≡ ended 10 ls → LinesSpell ls k d
    → Spells text k d
text_spells text k d short [] e s = absurd s
text_spells text k d short (l ∷ ls) e s = record {
  signs = s.0;
  calls = s.2.calls;
  short = short;
  spelling = e ∙ (ap (λ (m : List ℕ). ended 10 (m ∷ ls)) s.1.1 ∙ ap (λ (ms : List (List ℕ)). ended 10 (line_of (head_fields k s.0) ∷ ms)) s.2.spelling);
  accepted = s.1.0;
  lines = s.2.lines;
  done = s.2.done;
  drawn = s.2.drawn;
}

pub read_spells : (text : List ℕ) (k : KindLetter) (d : DraftModel) → read_text text ≡ Ok (k, d) → Spells text k d
read_spells text k d =
    cond_both (leb (length text) 32768) _ _ (λ r. r ≡ Ok (k, d) → Spells text k d)
    (λ short. cond_both (line_ended text) _ _ (λ r. r ≡ Ok (k, d) → Spells text k d)
    (λ e h. text_spells text k d (leb-true (length text) 32768 short) (lines_in text) (lines-rejoined text e) (lines_spell (lines_in text) k d h))
    (λ _ h. absurd (fault_not_ok NoEnd (k, d) h)))
    (λ _ h. absurd (fault_not_ok TooLong (k, d) h))

-- ---- what is written reads back

-- a proper draft with acceptable signs is read back from what is written of it
pub written_read : (k : KindLetter) (d : DraftModel) → Proper (kind_of k) d → sign_fault d.signs ≡ None → length (written k d) ≤ 32768
    → read_text (written k d) ≡ Ok (k, d)
written_read k d h ok short =
    let laws = call_laws_lem (kind_of k) in
    spelled-read k d.signs ok (redrawn d) (redrawn-lines d h.few (value_small k d h)) (laws.accepted d h) short
    ∙ ap (λ (e : DraftModel). Ok (k, e)) (laws.redraws d h)

pub drawn-read : (k : KindLetter) (d : DraftModel) → ReadsBack k d
drawn-read k d signs calls ok drawn short =
    let laws = call_laws_lem (kind_of k) in
    let proper = subst (Proper (kind_of k)) (sym drawn) (laws.proper signs calls) in
    written_read k d proper (ap (λ (e : DraftModel). sign_fault e.signs) drawn ∙ (ap sign_fault (laws.signs (fresh signs) calls) ∙ ok)) short

pub text_laws_lem : TextLaws
text_laws_lem = record {
  reads = λ text k d. (read_spells text k d, spells_read text k d);
  back = drawn-read;
}
