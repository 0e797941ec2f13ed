-- Operators and versions in parentheses, as pieces.
use Rattle.std.proofs.Common.{◌≡◌, ℕ, ◌<◌, Bool, true, false, not, ◌&&◌, ◌||◌, ◌==◌, cond, ltb, List, [], ◌∷◌, ◌++◌, length, get_or, Some, None, refl, ap, subst, sym, ◌∙◌, arith, lit<}
use Rattle.std.specs.List.{list_all}
use Rattle.std.specs.Str.{bytes_eq}
use Rattle.std.proofs.lemmas.Bool.{and_parts, cond-true}
use Rattle.std.proofs.lemmas.Bool.Decides.{nat_tests}
use Rattle.deb_version.specs.declared.order.Relation.{Relation}
use Rattle.deb_version.specs.declared.order.Relation.TheVariants.{Earlier, EarlierEqual, Equal, LaterEqual, Later}
use Rattle.deb_version.specs.VersionText.{is_version, fault_of, epoch_of, start_of, upstream_in, revision_in, is_epoch}
use Rattle.depends_field.specs.declared.alternative.Alternative.{Alternative}
use Rattle.depends_field.specs.declared.phase.Kind.{Kind}
use Rattle.depends_field.specs.declared.phase.Phase.TheVariants.{Opened, Compared, Versioned}
use Rattle.depends_field.specs.Pieces.{is_blank, is_version_byte, piece_len, inside_after}
use Rattle.depends_field.specs.Reading.{Read, is_piece, is_blanks, relation_of, is_allowed, is_version_word, with_relation, compared, compared_by, versioned, with_phase, phased}
use Rattle.depends_field.proofs.Found.{same_bytes}
use Rattle.depends_field.proofs.Walks.{Walk, one_walk, other_step, other_piece, word_len}

-- what goes on with an operator
abbrev pub is_operator_byte : ℕ → Bool
is_operator_byte b = b == 60 || b == 61 || b == 62

pub record IsOperator (o : List ℕ) : Type 0 where
  pub some : 0 < length o
  pub len : (rest : List ℕ) → is_operator_byte (get_or rest 0 0) ≡ false → piece_len true (o ++ rest) ≡ length o
  pub comma : is_piece 44 o ≡ false
  pub bar : is_piece 124 o ≡ false
  pub blanks : is_blanks o ≡ false
  pub turn : inside_after true o ≡ true

not_equal : (b : ℕ) → is_operator_byte b ≡ false → (b == 61) ≡ false
not_equal b h = grind (arith, nat_tests)

not_less : (b : ℕ) → is_operator_byte b ≡ false → (b == 60) ≡ false
not_less b h = grind (arith, nat_tests)

not_greater : (b : ℕ) → is_operator_byte b ≡ false → (b == 62) ≡ false
not_greater b h = grind (arith, nat_tests)

less_len : (b : ℕ) → is_operator_byte b ≡ false → cond {A = ℕ} (b == 60 || b == 61) 2 1 ≡ 1
less_len b h = grind (arith, nat_tests)

greater_len : (b : ℕ) → is_operator_byte b ≡ false → cond {A = ℕ} (b == 62 || b == 61) 2 1 ≡ 1
greater_len b h = grind (arith, nat_tests)

one_or_two : (n : ℕ) → n ≡ 1 → cond (true && ltb 0 n) n 1 ≡ 1
one_or_two n e = ap (λ k. cond (true && ltb 0 k) k 1) e

less : IsOperator (60 ∷ [])
unfolding piece_len inside_after
less = record { some = lit< tt; len = λ rest h. one_or_two _ (less_len (get_or rest 0 0) h); comma = refl; bar = refl; blanks = refl; turn = refl }

greater : IsOperator (62 ∷ [])
unfolding piece_len inside_after
greater = record { some = lit< tt; len = λ rest h. one_or_two _ (greater_len (get_or rest 0 0) h); comma = refl; bar = refl; blanks = refl; turn = refl }

equal : IsOperator (61 ∷ [])
unfolding piece_len inside_after
equal = record { some = lit< tt; len = λ rest h. refl; comma = refl; bar = refl; blanks = refl; turn = refl }

less_less : IsOperator (60 ∷ 60 ∷ [])
unfolding piece_len inside_after
less_less = record { some = lit< tt; len = λ rest h. refl; comma = refl; bar = refl; blanks = refl; turn = refl }

less_equal : IsOperator (60 ∷ 61 ∷ [])
unfolding piece_len inside_after
less_equal = record { some = lit< tt; len = λ rest h. refl; comma = refl; bar = refl; blanks = refl; turn = refl }

greater_equal : IsOperator (62 ∷ 61 ∷ [])
unfolding piece_len inside_after
greater_equal = record { some = lit< tt; len = λ rest h. refl; comma = refl; bar = refl; blanks = refl; turn = refl }

greater_greater : IsOperator (62 ∷ 62 ∷ [])
unfolding piece_len inside_after
greater_greater = record { some = lit< tt; len = λ rest h. refl; comma = refl; bar = refl; blanks = refl; turn = refl }

operator_as : (o q : List ℕ) → bytes_eq o q ≡ true → IsOperator q → IsOperator o
operator_as o q e h = let P : List ℕ → Type 0 = λ l. IsOperator l in subst P (sym (same_bytes o q e)) h

by_tests : (o : List ℕ) (relation : Relation) (b1 b2 b3 b4 b5 b6 b7 : Bool) → bytes_eq o (60 ∷ 60 ∷ []) ≡ b1 → bytes_eq o (60 ∷ 61 ∷ []) ≡ b2 → bytes_eq o (60 ∷ []) ≡ b3 → bytes_eq o (61 ∷ []) ≡ b4 → bytes_eq o (62 ∷ 61 ∷ []) ≡ b5 → bytes_eq o (62 ∷ []) ≡ b6 → bytes_eq o (62 ∷ 62 ∷ []) ≡ b7 → cond b1 (Some Earlier) (cond (b2 || b3) (Some EarlierEqual) (cond b4 (Some Equal) (cond (b5 || b6) (Some LaterEqual) (cond b7 (Some Later) None)))) ≡ Some relation → IsOperator o
by_tests o relation true b2 b3 b4 b5 b6 b7 h1 h2 h3 h4 h5 h6 h7 e = operator_as o (60 ∷ 60 ∷ []) h1 less_less
by_tests o relation false true b3 b4 b5 b6 b7 h1 h2 h3 h4 h5 h6 h7 e = operator_as o (60 ∷ 61 ∷ []) h2 less_equal
by_tests o relation false false true b4 b5 b6 b7 h1 h2 h3 h4 h5 h6 h7 e = operator_as o (60 ∷ []) h3 less
by_tests o relation false false false true b5 b6 b7 h1 h2 h3 h4 h5 h6 h7 e = operator_as o (61 ∷ []) h4 equal
by_tests o relation false false false false true b6 b7 h1 h2 h3 h4 h5 h6 h7 e = operator_as o (62 ∷ 61 ∷ []) h5 greater_equal
by_tests o relation false false false false false true b7 h1 h2 h3 h4 h5 h6 h7 e = operator_as o (62 ∷ []) h6 greater
by_tests o relation false false false false false false true h1 h2 h3 h4 h5 h6 h7 e = operator_as o (62 ∷ 62 ∷ []) h7 greater_greater
by_tests o relation false false false false false false false h1 h2 h3 h4 h5 h6 h7 e = cc

pub operator_is : (o : List ℕ) (relation : Relation) → relation_of o ≡ Some relation → IsOperator o
unfolding relation_of
operator_is o relation e =
    by_tests o relation (bytes_eq o (60 ∷ 60 ∷ [])) (bytes_eq o (60 ∷ 61 ∷ [])) (bytes_eq o (60 ∷ [])) (bytes_eq o (61 ∷ [])) (bytes_eq o (62 ∷ 61 ∷ [])) (bytes_eq o (62 ∷ [])) (bytes_eq o (62 ∷ 62 ∷ [])) refl refl refl refl refl refl refl e

compared_is : (kind : Kind) (base : Alternative) (o : List ℕ) (relation : Relation) → relation_of o ≡ Some relation → is_allowed kind relation ≡ true → compared kind base o ≡ Some (Compared base relation)
unfolding compared
compared_is kind base o relation e allowed = ap (compared_by kind base) e ∙ cond-true (is_allowed kind relation) _ _ allowed

pub walk_operator : (kind : Kind) (s : Read) (base : Alternative) (relation : Relation) (o rest : List ℕ) → relation_of o ≡ Some relation → is_allowed kind relation ≡ true → is_operator_byte (get_or rest 0 0) ≡ false → Walk kind true (with_phase s (Opened base)) (o ++ rest) true (with_phase s (Compared base relation)) rest
walk_operator kind s base relation o rest e allowed stop =
    let is = operator_is o relation e in
    one_walk kind true true (with_phase s (Opened base)) (with_phase s (Compared base relation)) o rest is.some (is.len rest stop) is.turn (other_step kind (with_phase s (Opened base)) o is.comma is.bar is.blanks ∙ ap (phased (with_phase s (Opened base))) (compared_is kind base o relation e allowed))

operator_first : (o rest : List ℕ) → IsOperator o → is_blank (get_or (o ++ rest) 0 0) ≡ false
operator_first [] rest is = absurd (omega (arith, is.some))
operator_first (b ∷ o) rest is = is.blanks

pub operator_head : (o rest : List ℕ) (relation : Relation) → relation_of o ≡ Some relation → is_blank (get_or (o ++ rest) 0 0) ≡ false
operator_head o rest relation e = operator_first o rest (operator_is o relation e)

-- versions

pub version_bytes : (v : List ℕ) → is_version_word v ≡ true → list_all is_version_byte v ≡ true
unfolding is_version_word
version_bytes v h = (and_parts (list_all is_version_byte v) (is_version v) h).0

version_some : (v : List ℕ) → is_version_word v ≡ true → 0 < length v
unfolding is_version_word is_version fault_of epoch_of start_of upstream_in revision_in is_epoch
version_some [] h = cc
version_some (b ∷ v) h = omega arith

version_byte_not : (b : ℕ) → is_version_byte b ≡ true → (is_blank b ≡ false) × (is_operator_byte b ≡ false)
version_byte_not b h = (grind (arith, nat_tests), grind (arith, nat_tests))

pub version_head : (v rest : List ℕ) → is_version_word v ≡ true → (is_blank (get_or (v ++ rest) 0 0) ≡ false) × (is_operator_byte (get_or (v ++ rest) 0 0) ≡ false)
version_head [] rest h = absurd (omega (arith, version_some [] h))
version_head (b ∷ v) rest h = version_byte_not b (and_parts (is_version_byte b) (list_all is_version_byte v) (version_bytes (b ∷ v) h)).0

version_first : (v : List ℕ) → is_version_word v ≡ true → is_blanks v ≡ false
version_first [] h = refl
version_first (b ∷ v) h = (version_byte_not b (and_parts (is_version_byte b) (list_all is_version_byte v) (version_bytes (b ∷ v) h)).0).0

pub version_turn : (v : List ℕ) → list_all is_version_byte v ≡ true → inside_after true v ≡ true
unfolding inside_after
version_turn v h = ap not (other_piece (list_all is_version_byte) v (41 ∷ []) h refl)

versioned_is : (base : Alternative) (relation : Relation) (v : List ℕ) → is_version_word v ≡ true → versioned base relation v ≡ Some (Versioned (with_relation base relation v))
unfolding versioned
versioned_is base relation v h = cond-true (is_version_word v) _ _ h

pub walk_version : (kind : Kind) (s : Read) (base : Alternative) (relation : Relation) (v rest : List ℕ) → is_version_word v ≡ true → is_version_byte (get_or rest 0 0) ≡ false → Walk kind true (with_phase s (Compared base relation)) (v ++ rest) true (with_phase s (Versioned (with_relation base relation v))) rest
walk_version kind s base relation v rest h stop =
    let bytes = version_bytes v h in
    one_walk kind true true (with_phase s (Compared base relation)) (with_phase s (Versioned (with_relation base relation v))) v rest (version_some v h) (word_len true v rest (version_some v h) bytes stop) (version_turn v bytes) (
    other_step kind (with_phase s (Compared base relation)) v (other_piece (list_all is_version_byte) v (44 ∷ []) bytes refl) (other_piece (list_all is_version_byte) v (124 ∷ []) bytes refl) (version_first v h) ∙ ap (phased (with_phase s (Compared base relation))) (versioned_is base relation v h)
    )
