-- The line of a fault is one alone.
use Rattle.std.proofs.Common.{◌≡◌, ℕ, ◌+◌, ◌<◌, List, [], ◌∷◌, ◌++◌, length, Option, Some, Result, Ok, Err, ap, sym, ◌∙◌, subst, arith, inl, inr}
use Rattle.std.specs.Result.{IfOk, IfErr, IsErrAnd, MatchResult}
use Rattle.std.proofs.lemmas.Bool.{cases_lt}
use Rattle.control_stanza.specs.declared.fault.StanzaFault.{StanzaFault}
use Rattle.control_stanza.specs.declared.fault.StanzaFault.TheVariants as lines
use Rattle.control_stanza.specs.Answers.{Fails, IfFault}
use Rattle.control_stanza.specs.declared.read.TheConstants.{MOST_STANZA_BYTES}
use Rattle.control_stanza.specs.declared.stanza.Field.{Field}
use Rattle.control_stanza.specs.Lines.{lines_of}
use Rattle.control_stanza.specs.Spelled.{Stanzas}
use Rattle.control_stanza.specs.Reading.{Fault}
use Rattle.control_stanza.specs.Faults.{IsFirstFault}
use Rattle.index_text.specs.declared.fault.IndexFault.{IndexFault}
use Rattle.index_text.specs.declared.fault.IndexFault.TheVariants.{At, OutOfMemory}
use Rattle.index_text.specs.Index.{AreEntries, IsMadeOf, IsFirstOther, IsAt, IsAtOf, IsFaultOf, IsOtherOf, of_lines}
use Rattle.index_text.proofs.EntryLemmas.{entry_at}

-- of two fronts of one list the longer one goes on with what follows the shorter
record GoesOn {X : Type 0} (front : List X) (next : X) (longer : List X) : Type 0 where
  more : List X
  is : longer ≡ front ++ next ∷ more

longer_goes_on : {X : Type 0} (xs : List X) (x : X) (xs' ys : List X) (y : X) (ys' : List X) → xs ++ x ∷ xs' ≡ ys ++ y ∷ ys' → length xs < length ys → GoesOn xs x ys
longer_goes_on [] x xs' [] y ys' e lt = absurd (omega arith)
longer_goes_on [] x xs' (z ∷ zs) y ys' e lt = record { more = zs; is = let h : x ≡ z = cc in (λ i. sym h i ∷ zs) }
longer_goes_on (w ∷ ws) x xs' [] y ys' e lt = absurd (omega arith)
longer_goes_on (w ∷ ws) x xs' (z ∷ zs) y ys' e lt =
    let h : w ≡ z = cc in
    let t : ws ++ x ∷ xs' ≡ zs ++ y ∷ ys' = cc in
    let g = longer_goes_on ws x xs' zs y ys' t (omega arith) in
    record { more = g.more; is = (λ i. sym h i ∷ g.is i) }

same_length : {X : Type 0} (xs : List X) (x : X) (xs' ys : List X) (y : X) (ys' : List X) → xs ++ x ∷ xs' ≡ ys ++ y ∷ ys' → (GoesOn xs x ys → ⊥) → (GoesOn ys y xs → ⊥) → length xs ≡ length ys
same_length xs x xs' ys y ys' e f g =
    elim (cases_lt (length xs) (length ys)) [
      | inl lt ↦ absurd (f (longer_goes_on xs x xs' ys y ys' e lt))
      | inr ge ↦
          elim (cases_lt (length ys) (length xs)) [ inl lt ↦ absurd (g (longer_goes_on ys y ys' xs x xs' (sym e) lt)) | inr le ↦ omega arith ]
    ]

same_next : {X : Type 0} (xs : List X) (x : X) (xs' ys : List X) (y : X) (ys' : List X) → xs ++ x ∷ xs' ≡ ys ++ y ∷ ys' → length xs ≡ length ys → x ≡ y
same_next [] x xs' [] y ys' e l = cc
same_next [] x xs' (z ∷ zs) y ys' e l = absurd (omega arith)
same_next (w ∷ ws) x xs' [] y ys' e l = absurd (omega arith)
same_next (w ∷ ws) x xs' (z ∷ zs) y ys' e l = let t : ws ++ x ∷ xs' ≡ zs ++ y ∷ ys' = cc in same_next ws x xs' zs y ys' t (omega arith)

-- a front that can be read doesn't go past a line that can't stand
not_past : (bound : Option ℕ) (lines : List (List ℕ)) (f g : Fault) (a : IsFirstFault bound lines f) (b : IsFirstFault bound lines g) → GoesOn a.before a.line b.before → ⊥
not_past bound lines f g a b h = a.unreadable h.more b.found (subst (λ (ls : List (List ℕ)). Stanzas bound 1 ls b.found) h.is b.readable)

pub one_first_fault : (bound : Option ℕ) (lines : List (List ℕ)) (f g : Fault) → IsFirstFault bound lines f → IsFirstFault bound lines g → f.line ≡ g.line
one_first_fault bound lines f g a b =
    let e = sym a.lines_are ∙ b.lines_are in
    let l = same_length a.before a.line a.behind b.before b.line b.behind e (not_past bound lines f g a b) (not_past bound lines g f b a) in
    a.number ∙ ap (λ n. 1 + n) l ∙ sym b.number

-- entries don't go past a stanza that is none
not_past_other : (stanzas : List (ℕ × List Field)) (m n : ℕ) (a : IsFirstOther stanzas m) (b : IsFirstOther stanzas n) → GoesOn a.before a.other b.before → ⊥
not_past_other stanzas m n a b h = a.is_none (entry_at a.before a.other h.more (subst AreEntries h.is b.are_entries))

pub one_first_other : (stanzas : List (ℕ × List Field)) (m n : ℕ) → IsFirstOther stanzas m → IsFirstOther stanzas n → m ≡ n
one_first_other stanzas m n a b =
    let e = sym a.stanzas_are ∙ b.stanzas_are in
    let l = same_length a.before a.other a.behind b.before b.other b.behind e (not_past_other stanzas m n a b) (not_past_other stanzas n m b a) in
    a.line_is ∙ ap (λ (s : ℕ × List Field). s.0) (same_next a.before a.other a.behind b.before b.other b.behind e l) ∙ sym b.line_is

-- what is made of stanzas has no line that can't stand
pub no_first_fault : (text : List ℕ) (stanzas : List (ℕ × List Field)) (f : Fault) → IsMadeOf text stanzas → IsFirstFault (Some MOST_STANZA_BYTES) (lines_of text) f → ⊥
no_first_fault text stanzas f made a = a.unreadable a.behind stanzas (subst (λ (ls : List (List ℕ)). Stanzas (Some MOST_STANZA_BYTES) 1 ls stanzas) a.lines_are made)

-- of a text with a fault in its lines, that fault's line is the one
pub at_fault : (text : List ℕ) (line : ℕ) (f : Fault) → IsFirstFault (Some MOST_STANZA_BYTES) (lines_of text) f → IsAt text line → f.line ≡ line
at_fault text line f a (inl (kind, b)) = one_first_fault (Some MOST_STANZA_BYTES) (lines_of text) f (record { line = line; kind = kind }) a b
at_fault text line f a (inr (stanzas, made, other)) = absurd (no_first_fault text stanzas f made a)

-- of a text of stanzas, the line is that of the first that is no entry
pub other_of : (text : List ℕ) (stanzas : List (ℕ × List Field)) (line : ℕ) → IsMadeOf text stanzas → ((out : List (ℕ × List Field)) → IsMadeOf text out → out ≡ stanzas) → IsAt text line → IsFirstOther stanzas line
other_of text stanzas line made one (inl (kind, a)) = absurd (no_first_fault text stanzas (record { line = line; kind = kind }) made a)
other_of text stanzas line made one (inr (out, are, other)) = subst (λ (ss : List (ℕ × List Field)). IsFirstOther ss line) (one out are) other

pub told : {V : Type 0} (stanzas : List (ℕ × List Field)) (line : ℕ) (r : Result V IndexFault) → IsFirstOther stanzas line → IfOk r (λ v. AreEntries stanzas) → IfErr r (IsOtherOf stanzas) → IsAtOf line r
told stanzas line (Ok v) a e o = a.is_none (entry_at a.before a.other a.behind (subst AreEntries a.stanzas_are e))
told stanzas line (Err OutOfMemory) a e o = tt
told stanzas line (Err (At n)) a e o = one_first_other stanzas n line o a

-- ---- what a fault in the lines says
pub lines_only : {V : Type 0} (P : V → Type 0) (stanzas : List (ℕ × List Field)) (fault : StanzaFault) (r : Result V IndexFault) → Fails fault (Ok stanzas) → IsErrAnd r (λ e. e ≡ of_lines fault) → MatchResult r P (λ e. e ≡ OutOfMemory)
lines_only P stanzas fault (Ok v) h i = absurd i
lines_only P stanzas lines.OutOfMemory (Err e) h i = i
lines_only P stanzas (lines.At line kind) (Err e) h i = cc

pub lines_fault : {V : Type 0} (text : List ℕ) (fault : StanzaFault) (r : Result V IndexFault) → IfFault fault (IsFirstFault (Some MOST_STANZA_BYTES) (lines_of text)) → IsErrAnd r (λ e. e ≡ of_lines fault) → IfErr r (IsFaultOf text)
lines_fault text fault (Ok v) h i = absurd i
lines_fault text lines.OutOfMemory (Err e) h i = subst (IsFaultOf text) (sym i) tt
lines_fault text (lines.At line kind) (Err e) h i = subst (IsFaultOf text) (sym i) (inl (kind, h))

pub lines_told : {V : Type 0} (text : List ℕ) (line : ℕ) (fault : StanzaFault) (r : Result V IndexFault) → IfFault fault (IsFirstFault (Some MOST_STANZA_BYTES) (lines_of text)) → IsErrAnd r (λ e. e ≡ of_lines fault) → IsAt text line → IsAtOf line r
lines_told text line fault (Ok v) h i at = absurd i
lines_told {V} text line lines.OutOfMemory (Err e) h i at = subst (λ (f : IndexFault). IsAtOf {X = V} line (Err f)) (sym i) tt
lines_told {V} text line (lines.At n kind) (Err e) h i at = subst (λ (f : IndexFault). IsAtOf {X = V} line (Err f)) (sym i) (at_fault text line (record { line = n; kind = kind }) h at)
