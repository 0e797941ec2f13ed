-- A text is one Release alone, or has a fault in one line alone.
use Rattle.std.proofs.Common.{◌≡◌, ℕ, ◌<◌, true, false, List, [], ◌∷◌, length, get_or, map, filter, codes, Option, Some, None, Result, Ok, Err, refl, ap, sym, ◌∙◌, subst, arith, inl, inr}
use Rattle.std.specs.Option.{MatchOption}
use Rattle.std.specs.Result.{IsErrAnd, IfErr, MatchResult}
use Rattle.ap_text.specs.Names.{is_architecture, is_component}
use Rattle.control_stanza.specs.declared.read.TheConstants.{MOST_STANZA_BYTES}
use Rattle.control_stanza.specs.declared.fault.StanzaFault.{StanzaFault}
use Rattle.control_stanza.specs.declared.fault.StanzaFault.TheVariants as lines
use Rattle.control_stanza.specs.declared.stanza.Field.{Field}
use Rattle.control_stanza.specs.Answers.{IfFault}
use Rattle.control_stanza.specs.Lines.{lines_of}
use Rattle.control_stanza.specs.Fields.{value_lines, value_of}
use Rattle.control_stanza.specs.Reading.{Fault}
use Rattle.control_stanza.specs.Faults.{IsFirstFault}
use Rattle.package_core.specs.Fields.{text_in}
use Rattle.index_text.specs.Index.{IsMadeOf}
use Rattle.index_text.proofs.FaultLemmas.{one_first_fault, no_first_fault}
use Rattle.release_file.specs.declared.listing.Listed.{Listed}
use Rattle.release_file.specs.declared.fault.ReleaseFault.{ReleaseFault}
use Rattle.release_file.specs.declared.fault.ReleaseFault.TheVariants.{At, OutOfMemory}
use Rattle.release_file.specs.Words.{has_word}
use Rattle.release_file.specs.Release.{ReleaseView, AreListings, Says, ListsIn, IsAlone, IsRelease, IsAt, IsAtOf, IsFaultOf, of_lines, component_words, architecture_words}
use Rattle.release_file.proofs.NameLemmas.{one_names}
use Rattle.release_file.proofs.ListingLemmas.{one_list}

one_of : {X : Type 0} (x y : X) → Some x ≡ Some y → x ≡ y
one_of x y e = cc

one_files : (fields : List Field) (xs ys : List Listed) → ListsIn fields xs → ListsIn fields ys → xs ≡ ys
one_files fields xs ys a b =
    let v : a.value ≡ b.value = one_of a.value b.value (sym a.there ∙ b.there) in
    one_list (filter has_word (value_lines a.value)) xs ys a.lists.each (subst (λ w. AreListings (filter has_word (value_lines w)) ys) (sym v) b.lists.each)

one_says : (fields : List Field) (r s : ReleaseView) → Says fields r → Says fields s → r ≡ s
one_says fields r s a b =
    let d : r.date ≡ s.date = a.date ∙ sym b.date in
    let c : r.components ≡ s.components = one_names is_component (component_words (text_in fields (codes "Components"))) r.components s.components a.components b.components in
    let h : r.architectures ≡ s.architectures = one_names is_architecture (architecture_words (text_in fields (codes "Architectures"))) r.architectures s.architectures a.architectures b.architectures in
    let f : r.files ≡ s.files = one_files fields r.files s.files a.files b.files in
    (λ i. record { date = d i; components = c i; architectures = h i; files = f i })

one_head : (x y : ℕ × List Field) → x ∷ [] ≡ y ∷ [] → x ≡ y
one_head x y e = cc

pub one_alone : (stanzas : List (ℕ × List Field)) (r s : ReleaseView) → IsAlone stanzas r → IsAlone stanzas s → r ≡ s
one_alone stanzas r s a b =
    let e : a.stanza ≡ b.stanza = one_head a.stanza b.stanza (sym a.alone ∙ b.alone) in
    one_says a.stanza.1 r s a.says (subst (λ (z : ℕ × List Field). Says z.1 s) (sym e) b.says)

-- ---- one stanza alone
pub single : (stanzas : List (ℕ × List Field)) (x : ℕ × List Field) → length stanzas ≡ 1 → x ≡ get_or stanzas 0 x → stanzas ≡ x ∷ []
single [] x l e = absurd (omega (arith, l))
single (y ∷ []) x l e = ap (λ z. z ∷ []) (sym e)
single (y ∷ z ∷ zs) x l e = absurd (omega (arith, l))

pub alone_of : (stanzas : List (ℕ × List Field)) (x : ℕ × List Field) (o : Option ReleaseView) → stanzas ≡ x ∷ [] → MatchOption o ((r : ReleaseView) → Says x.1 r → ⊥) (Says x.1) → MatchOption o ((r : ReleaseView) → IsAlone stanzas r → ⊥) (IsAlone stanzas)
alone_of stanzas x (Some r) e h = record { stanza = x; alone = e; says = h }
alone_of stanzas x None e h = λ r a. h r (subst (λ (z : ℕ × List Field). Says z.1 r) (one_head a.stanza x (sym a.alone ∙ e)) a.says)

-- ---- the line of a fault
at_fault : (text : List ℕ) (line : ℕ) (f : Fault) → IsFirstFault (Some MOST_STANZA_BYTES) (lines_of text) f → IsAt text line → f.line ≡ line
at_fault text line f a (inl (kind, b)) = one_first_fault (Some MOST_STANZA_BYTES) (lines_of text) f (record { line = line; kind = kind }) a b
at_fault text line f a (inr (stanzas, made, none, one)) = absurd (no_first_fault text stanzas f made a)

pub lines_told : {V : Type 0} (text : List ℕ) (line : ℕ) (fault : StanzaFault) (r : Result V ReleaseFault) → IfFault fault (IsFirstFault (Some MOST_STANZA_BYTES) (lines_of text)) → IsErrAnd r (λ e. e ≡ of_lines fault) → IsAt text line → IsAtOf line r
lines_told text line fault (Ok v) h i at = absurd i
lines_told {V} text line lines.OutOfMemory (Err e) h i at = subst (λ (f : ReleaseFault). IsAtOf {X = V} line (Err f)) (sym i) tt
lines_told {V} text line (lines.At n kind) (Err e) h i at = subst (λ (f : ReleaseFault). IsAtOf {X = V} line (Err f)) (sym i) (at_fault text line (record { line = n; kind = kind }) h at)

pub lines_fault : {V : Type 0} (text : List ℕ) (fault : StanzaFault) (r : Result V ReleaseFault) → IfFault fault (IsFirstFault (Some MOST_STANZA_BYTES) (lines_of text)) → IsErrAnd r (λ e. e ≡ of_lines fault) → IfErr r (IsFaultOf text)
lines_fault text fault (Ok v) h i = absurd i
lines_fault text lines.OutOfMemory (Err e) h i = subst (IsFaultOf text) (sym i) tt
lines_fault text (lines.At line kind) (Err e) h i = subst (IsFaultOf text) (sym i) (inl (kind, h))

-- a text that is made of stanzas has no fault in its lines, and its stanzas are these
pub other_line : (text : List ℕ) (stanzas : List (ℕ × List Field)) → IsMadeOf text stanzas → ((out : List (ℕ × List Field)) → IsMadeOf text out → stanzas ≡ out) → (line : ℕ) → IsAt text line → ((r : ReleaseView) → IsAlone stanzas r → ⊥) × (line ≡ 1)
other_line text stanzas made one line (inl (kind, a)) = absurd (no_first_fault text stanzas (record { line = line; kind = kind }) made a)
other_line text stanzas made one line (inr (out, are, none, first)) = (subst (λ (ss : List (ℕ × List Field)). (r : ReleaseView) → IsAlone ss r → ⊥) (sym (one out are)) none, first)

pub the_stanzas : {X F : Type 0} (x y : X) → ◌≡◌ {A = Result X F} (Ok x) (Ok y) → x ≡ y
the_stanzas x y e = cc
