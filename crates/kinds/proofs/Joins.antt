-- The laws of the join on all codes, and the order that it makes: the join of two codes is the least above both.
use Rattle.std.proofs.Common.{◌≡◌, ℕ, Bool, true, false, cond, List, [], ◌∷◌, ◌++◌, sym, refl, ap, ◌∙◌}
use Rattle.kinds.specs.Kinds.{KindModel, clean, join, join_all}
use Rattle.kinds.specs.JoinLaws.{JoinLaws}

module _ (K : KindModel) where
  pub clean_is : (a : ℕ) → K.admits a ≡ true → clean K a ≡ a
  clean_is a h = ap (λ b. cond b a K.none) h

  pub clean_admitted : (a : ℕ) → K.admits (clean K a) ≡ true
  clean_admitted a = by (K.admits a) refl
    where
      by : (b : Bool) → K.admits a ≡ b → K.admits (cond b a K.none) ≡ true
      by true e = e
      by false e = K.none_admitted

  pub clean_idem : (a : ℕ) → clean K (clean K a) ≡ clean K a
  clean_idem a = clean_is (clean K a) (clean_admitted a)

  pub join_admitted : (a b : ℕ) → K.admits (join K a b) ≡ true
  join_admitted a b = K.closed (clean K a) (clean K b) (clean_admitted a) (clean_admitted b)

  pub join_all_admitted : (cs : List ℕ) → K.admits (join_all K cs) ≡ true
  join_all_admitted [] = K.none_admitted
  join_all_admitted (c ∷ cs) = join_admitted c (join_all K cs)

  pub join-comm : (a b : ℕ) → join K a b ≡ join K b a
  join-comm a b = K.comm (clean K a) (clean K b) (clean_admitted a) (clean_admitted b)

  pub join-assoc : (a b c : ℕ) → join K (join K a b) c ≡ join K a (join K b c)
  join-assoc a b c =
      ap (λ x. K.op x (clean K c)) (clean_is (join K a b) (join_admitted a b))
      ∙ K.assoc (clean K a) (clean K b) (clean K c) (clean_admitted a) (clean_admitted b) (clean_admitted c)
      ∙ ap (K.op (clean K a)) (sym (clean_is (join K b c) (join_admitted b c)))

  pub join-idem : (a : ℕ) → join K a a ≡ clean K a
  join-idem a = K.idem (clean K a) (clean_admitted a)

  pub join-clean : (a b : ℕ) → join K (clean K a) b ≡ join K a b
  join-clean a b = ap (λ x. K.op x (clean K b)) (clean_idem a)

  pub unit_left : (a : ℕ) → join K K.none a ≡ clean K a
  unit_left a = ap (λ x. K.op x (clean K a)) (clean_is K.none K.none_admitted) ∙ K.unit (clean K a) (clean_admitted a)

  pub unit_right : (a : ℕ) → join K a K.none ≡ clean K a
  unit_right a = join-comm a K.none ∙ unit_left a

  pub join_all-append : (cs ds : List ℕ) → join_all K (cs ++ ds) ≡ join K (join_all K cs) (join_all K ds)
  join_all-append [] ds = sym (unit_left (join_all K ds) ∙ clean_is (join_all K ds) (join_all_admitted ds))
  join_all-append (c ∷ cs) ds = ap (join K c) (join_all-append cs ds) ∙ sym (join-assoc c (join_all K cs) (join_all K ds))

  -- for loops: one more code at the end
  pub join_all-push : (cs : List ℕ) (c : ℕ) → join_all K (cs ++ c ∷ []) ≡ join K (join_all K cs) c
  join_all-push [] c = join-comm c K.none
  join_all-push (x ∷ cs) c = ap (join K x) (join_all-push cs c) ∙ sym (join-assoc x (join_all K cs) c)

  pub join_laws_lem : JoinLaws K
  join_laws_lem = record {
    clean_admitted = clean_admitted;
    join_admitted = join_admitted;
    join_all_admitted = join_all_admitted;
    clean_idem = clean_idem;
    comm = join-comm;
    assoc = join-assoc;
    idem = join-idem;
    unit_left = unit_left;
    unit_right = unit_right;
    single = unit_right;
    append = join_all-append;
  }

  -- x is at most u
  abbrev pub Below : ℕ → ℕ → Type 0
  Below x u = join K x u ≡ u

  pub below_self : (x : ℕ) → K.admits x ≡ true → Below x x
  below_self x h = join-idem x ∙ clean_is x h

  pub none_below : (u : ℕ) → K.admits u ≡ true → Below K.none u
  none_below u h = unit_left u ∙ clean_is u h

  -- the join is above both codes
  pub below_left : (x y u : ℕ) → Below (join K x y) u → Below x u
  below_left x y u h =
      ap (join K x) (sym h)
      ∙ sym (join-assoc x (join K x y) u)
      ∙ ap (λ z. join K z u) (sym (join-assoc x x y) ∙ ap (λ z. join K z y) (join-idem x) ∙ join-clean x y)
      ∙ h

  pub below_right : (x y u : ℕ) → Below (join K x y) u → Below y u
  below_right x y u h = below_left y x u (ap (λ z. join K z u) (join-comm y x) ∙ h)

  -- and below whatever is above both
  pub join-below : (x y u : ℕ) → Below x u → Below y u → Below (join K x y) u
  join-below x y u h k = join-assoc x y u ∙ ap (join K x) k ∙ h

  -- two admitted codes with the same codes above them are equal
  pub equal_by_below : (x y : ℕ) → K.admits x ≡ true → K.admits y ≡ true
      → ((u : ℕ) → K.admits u ≡ true → Below x u → Below y u) → ((u : ℕ) → K.admits u ≡ true → Below y u → Below x u) → x ≡ y
  equal_by_below x y h k f g = sym (f x h (below_self x h)) ∙ join-comm y x ∙ g y k (below_self y k)
