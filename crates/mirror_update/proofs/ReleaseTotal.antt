-- Each text is a Release, or has a first line that can't stand there.
use Rattle.std.proofs.Common.{◌≡◌, ◌⊎◌, inl, inr, ℕ, Bool, true, false, List, [], ◌∷◌, map, filter, codes, Option, Some, None, Result, Ok, Err, refl, sym, ap, ◌∙◌, subst}
use Rattle.std.specs.List.{list_all}
use Rattle.std.specs.Str.Parse.{digits_value}
use Rattle.ap_text.specs.Decimals.{is_number}
use Rattle.ap_text.specs.Names.{is_architecture, is_component}
use Rattle.ap_text.proofs.DecimalLemmas.{number_is_decimal}
use Rattle.control_stanza.specs.declared.read.TheConstants.{MOST_STANZA_BYTES}
use Rattle.control_stanza.specs.declared.stanza.Field.{Field}
use Rattle.control_stanza.specs.Lines.{lines_of}
use Rattle.control_stanza.specs.Fields.{value_lines, value_of}
use Rattle.control_stanza.specs.Reading.{Fault, stanzas_from}
use Rattle.control_stanza.proofs.Found.{found_all}
use Rattle.control_stanza.proofs.Least.{first_fault}
use Rattle.package_core.specs.Fields.{digest, is_file_path, text_in}
use Rattle.package_core.proofs.SizeLemmas.{size_read}
use Rattle.package_list.specs.Sorted.{union}
use Rattle.release_file.specs.declared.listing.Listed.{Listed}
use Rattle.release_file.specs.Words.{has_word, words}
use Rattle.release_file.specs.Release.{AreListings, AreNamesOf, IsAlone, IsFile, IsListing, Lists, ListsIn, ReleaseView, Says, architecture_words, are_different, component_words, is_date, path_of}
use Rattle.release_file.proofs.ListingLemmas.{not_once}
use Rattle.release_file.proofs.NameLemmas.{names_are, text_cmp}
use Rattle.release_file.proofs.ReleaseLemmas.{alone_of}
use Rattle.mirror_update.specs.Fetch.{IsReleaseText}

-- one of these is such, or none is
abbrev Decided : {X : Type 0} → (X → Type 0) → Type 0
Decided {X = X} P = ((x : X) × P x) ⊎ ((x : X) → P x → ⊥)

never : false ≡ true → ⊥
never h = cc

not_none : {X : Type 0} (x : X) → None ≡ Some x → ⊥
not_none x h = cc

one_of : {X : Type 0} (x y : X) → Some x ≡ Some y → x ≡ y
one_of x y e = cc

-- ---- one line
file_in : (digits size path : List ℕ) → Decided (IsFile digits size path)
file_in digits size path = by_digest (digest 32 digits) refl
  where
    by_path : (sha256 : List ℕ) → digest 32 digits ≡ Some sha256 → is_number size ≡ true → (b : Bool) → is_file_path path ≡ b → Decided (IsFile digits size path)
    by_path sha256 d n true e =
        let number = number_is_decimal size n in
        inl (record { path = path; size = digits_value 10 size; sha256 = sha256 }, record { sha256 = d; small = number.0; size_is = number.1; path_is = refl; safe = e })
    by_path sha256 d n false e = inr (λ file h. never (sym e ∙ ap is_file_path h.path_is ∙ h.safe))

    by_size : (sha256 : List ℕ) → digest 32 digits ≡ Some sha256 → (b : Bool) → is_number size ≡ b → Decided (IsFile digits size path)
    by_size sha256 d true e = by_path sha256 d e (is_file_path path) refl
    by_size sha256 d false e = inr (λ file h. never (sym e ∙ (size_read size file.size h.size_is h.small).0))

    by_digest : (o : Option (List ℕ)) → digest 32 digits ≡ o → Decided (IsFile digits size path)
    by_digest (Some sha256) e = by_size sha256 e (is_number size) refl
    by_digest None e = inr (λ file h. not_none file.sha256 (sym e ∙ h.sha256))

listing_in : (line : List ℕ) → Decided (IsListing line)
listing_in line = by_words (words line) refl
  where
    by_words : (ws : List (List ℕ)) → words line ≡ ws → Decided (IsListing line)
    by_words [] e = inr (λ file h. (let no : [] ≡ h.digits ∷ h.size ∷ h.path ∷ [] = sym e ∙ h.words_are in cc))
    by_words (a ∷ []) e = inr (λ file h. (let no : a ∷ [] ≡ h.digits ∷ h.size ∷ h.path ∷ [] = sym e ∙ h.words_are in cc))
    by_words (a ∷ b ∷ []) e = inr (λ file h. (let no : a ∷ b ∷ [] ≡ h.digits ∷ h.size ∷ h.path ∷ [] = sym e ∙ h.words_are in cc))
    by_words (a ∷ b ∷ c ∷ d ∷ more) e = inr (λ file h. (let no : a ∷ b ∷ c ∷ d ∷ more ≡ h.digits ∷ h.size ∷ h.path ∷ [] = sym e ∙ h.words_are in cc))
    by_words (a ∷ b ∷ c ∷ []) e = by_file (file_in a b c)
      where
        by_file : Decided (IsFile a b c) → Decided (IsListing line)
        by_file (inl (file, is)) = inl (file, record { digits = a; size = b; path = c; words_are = e; is = is })
        by_file (inr none) = inr (λ file h. none file (as_said file h))
          where
            as_said : (file : Listed) → IsListing line file → IsFile a b c file
            as_said file h =
                let same : a ∷ b ∷ c ∷ [] ≡ h.digits ∷ h.size ∷ h.path ∷ [] = sym e ∙ h.words_are in
                let digits : a ≡ h.digits = cc in
                let size : b ≡ h.size = cc in
                let path : c ≡ h.path = cc in
                record { sha256 = ap (digest 32) digits ∙ h.is.sha256; small = h.is.small; size_is = size ∙ h.is.size_is; path_is = path ∙ h.is.path_is; safe = h.is.safe }

-- ---- all lines
listings_in : (lines : List (List ℕ)) → Decided (AreListings lines)
listings_in [] = inl ([], tt)
listings_in (line ∷ lines) = by_line (listing_in line) (listings_in lines)
  where
    no_line : ((file : Listed) → IsListing line file → ⊥) → (files : List Listed) → AreListings (line ∷ lines) files → ⊥
    no_line none [] h = h
    no_line none (file ∷ files) h = none file h.0

    no_more : ((files : List Listed) → AreListings lines files → ⊥) → (files : List Listed) → AreListings (line ∷ lines) files → ⊥
    no_more none [] h = h
    no_more none (file ∷ files) h = none files h.1

    by_line : Decided (IsListing line) → Decided (AreListings lines) → Decided (AreListings (line ∷ lines))
    by_line (inl (file, is)) (inl (files, are)) = inl (file ∷ files, (is, are))
    by_line (inr none) more = inr (no_line none)
    by_line (inl one) (inr none) = inr (no_more none)

files_of : (value : List ℕ) → Decided (Lists value)
files_of value = by_lines (listings_in (filter has_word (value_lines value)))
  where
    by_once : (files : List Listed) → AreListings (filter has_word (value_lines value)) files → (b : Bool) → are_different (map path_of files) ≡ b → Decided (Lists value)
    by_once files are true e = inl (files, record { each = are; once = e })
    by_once files are false e = inr (not_once value files are e)

    by_lines : Decided (AreListings (filter has_word (value_lines value))) → Decided (Lists value)
    by_lines (inl (files, are)) = by_once files are (are_different (map path_of files)) refl
    by_lines (inr none) = inr (λ files h. none files h.each)

files_in : (fields : List Field) → Decided (ListsIn fields)
files_in fields = by_value (value_of fields (codes "SHA256")) refl
  where
    by_files : (value : List ℕ) → value_of fields (codes "SHA256") ≡ Some value → Decided (Lists value) → Decided (ListsIn fields)
    by_files value e (inl (files, lists)) = inl (files, record { value = value; there = e; lists = lists })
    by_files value e (inr none) = inr (λ files h. none files (subst (λ (v : List ℕ). Lists v files) (one_of h.value value (sym h.there ∙ e)) h.lists))

    by_value : (o : Option (List ℕ)) → value_of fields (codes "SHA256") ≡ o → Decided (ListsIn fields)
    by_value None e = inr (λ files h. not_none h.value (sym e ∙ h.there))
    by_value (Some value) e = by_files value e (files_of value)

-- ---- names
names_in : (is : List ℕ → Bool) (ws : List (List ℕ)) → Decided (AreNamesOf is ws)
names_in is ws = by_good (list_all is ws) refl
  where
    by_good : (b : Bool) → list_all is ws ≡ b → Decided (AreNamesOf is ws)
    by_good true e = inl (union text_cmp [] ws, names_are is ws (union text_cmp [] ws) e refl)
    by_good false e = inr (λ names h. never (sym e ∙ h.good))

-- ---- the whole
abbrev AreComponents : List Field → List (List ℕ) → Type 0
AreComponents fields names = AreNamesOf is_component (component_words (text_in fields (codes "Components"))) names

abbrev AreArchitectures : List Field → List (List ℕ) → Type 0
AreArchitectures fields names = AreNamesOf is_architecture (architecture_words (text_in fields (codes "Architectures"))) names

said_in : (fields : List Field) → Decided (Says fields)
said_in fields = by_files (files_in fields)
  where
    by_date : (files : List Listed) (components architectures : List (List ℕ)) → ListsIn fields files → AreComponents fields components → AreArchitectures fields architectures → (b : Bool) → is_date (text_in fields (codes "Date")) ≡ b → Decided (Says fields)
    by_date files components architectures f c a true e =
        inl (record { date = text_in fields (codes "Date"); components = components; architectures = architectures; files = files }, record { files = f; components = c; architectures = a; date_is = e; date = refl })
    by_date files components architectures f c a false e = inr (λ release h. never (sym e ∙ h.date_is))

    by_names : (files : List Listed) → ListsIn fields files → Decided (AreComponents fields) → Decided (AreArchitectures fields) → Decided (Says fields)
    by_names files f (inl (components, c)) (inl (architectures, a)) = by_date files components architectures f c a (is_date (text_in fields (codes "Date"))) refl
    by_names files f (inr none) a = inr (λ release h. none release.components h.components)
    by_names files f (inl c) (inr none) = inr (λ release h. none release.architectures h.architectures)

    by_files : Decided (ListsIn fields) → Decided (Says fields)
    by_files (inl (files, f)) =
        by_names files f (names_in is_component (component_words (text_in fields (codes "Components")))) (names_in is_architecture (architecture_words (text_in fields (codes "Architectures"))))
    by_files (inr none) = inr (λ release h. none release.files h.files)

alone_in : (stanzas : List (ℕ × List Field)) → Decided (IsAlone stanzas)
alone_in [] = inr (λ release h. (let no : [] ≡ h.stanza ∷ [] = h.alone in cc))
alone_in (s ∷ t ∷ more) = inr (λ release h. (let no : s ∷ t ∷ more ≡ h.stanza ∷ [] = h.alone in cc))
alone_in (s ∷ []) = by_says (said_in s.1)
  where
    by_says : Decided (Says s.1) → Decided (IsAlone (s ∷ []))
    by_says (inl (release, says)) = inl (release, record { stanza = s; alone = refl; says = says })
    by_says (inr none) = inr (alone_of (s ∷ []) s None refl none)

pub release_is : (text : List ℕ) → (said : Result ReleaseView ℕ) × IsReleaseText text said
release_is text = by_stanzas (stanzas_from (Some MOST_STANZA_BYTES) 1 None (lines_of text)) refl
  where
    by_alone : (out : List (ℕ × List Field)) → stanzas_from (Some MOST_STANZA_BYTES) 1 None (lines_of text) ≡ Ok out → Decided (IsAlone out) → (said : Result ReleaseView ℕ) × IsReleaseText text said
    by_alone out e (inl (release, alone)) = (Ok release, record { stanzas = out; made_of = found_all (Some MOST_STANZA_BYTES) (lines_of text) out e; alone = alone })
    by_alone out e (inr none) = (Err 1, inr (out, found_all (Some MOST_STANZA_BYTES) (lines_of text) out e, none, refl))

    by_stanzas : (r : Result (List (ℕ × List Field)) Fault) → stanzas_from (Some MOST_STANZA_BYTES) 1 None (lines_of text) ≡ r → (said : Result ReleaseView ℕ) × IsReleaseText text said
    by_stanzas (Ok out) e = by_alone out e (alone_in out)
    by_stanzas (Err fault) e = (Err fault.line, inl (fault.kind, first_fault (Some MOST_STANZA_BYTES) (lines_of text) fault e))
