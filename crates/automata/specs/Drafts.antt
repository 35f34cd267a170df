-- What a draft holds: a nondeterministic automaton with a value for each state.
use Rattle.std.specs.Prelude.{ℕ, Bool, false, cond, ◌&&◌, List, [], length, ◌==◌, nat_lt}

pub record DraftModel : Type 0 where
  pub signs : List ℕ
  pub values : List ℕ
  pub entry : ℕ → Bool
  pub arrow : ℕ → ℕ → ℕ → Bool

-- the number of states
abbrev pub size : DraftModel → ℕ
size d = length d.values

-- the number of letters
abbrev pub letters : DraftModel → ℕ
letters d = length d.signs

abbrev pub is_state : DraftModel → ℕ → Bool
is_state d p = nat_lt p (size d)

abbrev pub is_letter : DraftModel → ℕ → Bool
is_letter d a = nat_lt a (letters d)

abbrev pub fresh : List ℕ → DraftModel
fresh signs = record { signs = signs; values = []; entry = λ p. false; arrow = λ p a q. false }

-- Each change alters one part only.
abbrev pub with_values : DraftModel → List ℕ → DraftModel
with_values d vs = record { signs = d.signs; values = vs; entry = d.entry; arrow = d.arrow }

abbrev pub with_entry : DraftModel → ℕ → Bool → DraftModel
with_entry d p b = record { signs = d.signs; values = d.values; entry = λ p'. cond (p' == p) b (d.entry p'); arrow = d.arrow }

abbrev pub with_arrow : DraftModel → ℕ → ℕ → ℕ → Bool → DraftModel
with_arrow d p a q b = record {
  signs = d.signs;
  values = d.values;
  entry = d.entry;
  arrow = λ p' a' q'. cond (p' == p && a' == a && q' == q) b (d.arrow p' a' q');
}
