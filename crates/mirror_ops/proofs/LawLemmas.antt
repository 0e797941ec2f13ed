-- What the cases of mirrors keep to.
use Rattle.std.proofs.Common.{◌≡◌, ◌≢◌, ℕ, List, [], ◌∷◌, ◌++◌, length, Option, Some, None, Bool, true, false, Result, Ok, Err, refl, ap, arith, rules, inl}
use Rattle.std.specs.Option.{IfSome, is_some}
use Rattle.std.specs.Bool.{nat_le, if◌then◌else◌}
use Rattle.std.specs.Str.{is_utf8}
use Rattle.std.proofs.lemmas.Str.{IsUtf8-from_is_utf8}
use Rattle.std.proofs.lemmas.List.{length-append}
use Rattle.ap_text.specs.Names.{is_name}
use Rattle.query_tree.specs.Tree.{Tree}
use Rattle.query_grammar.specs.Said.{query_of}
use Rattle.query_grammar.proofs.Said.{query_spelled}
use Rattle.machine_state.specs.declared.limit.Kind.TheVariants as kinds
use Rattle.machine_state.specs.declared.limit.Limit.TheVariants as limits
use Rattle.machine_state.specs.declared.refusal.Refusal.{Refusal}
use Rattle.machine_state.specs.declared.refusal.Refusal.TheVariants.{BadName, Exists, Limit}
use Rattle.machine_state.specs.declared.arrived.Arrived.{Arrived}
use Rattle.machine_state.specs.Mirrors.{IsMirror}
use Rattle.machine_state.specs.State.{Valid, mirror_of}
use Rattle.machine_state.specs.Texts.{IsFilter, is_path}
use Rattle.machine_state.specs.Values.{MirrorView, StateView}
use Rattle.reply_text.specs.Mirrors as replies
use Rattle.reply_text.specs.Words.{line}
use Rattle.step_model.specs.Case.{Came, asking_case, bad_queries, changes, refuses, plain_case}
use Rattle.step_model.specs.Names.{bad_name}
use Rattle.step_model.specs.Lawful.{IfChanges, IfRefuses, IsFrom, IsLawful}
use Rattle.step_model.proofs.AskingLemmas.{own_queries}
use Rattle.step_model.proofs.OwnLemmas.{Own, OwnOr, first_none, own_else, own_if, own_name, second_none}
use Rattle.step_model.proofs.StepLemmas.{from_known}
use Rattle.mirror_ops.specs.declared.names.Part.{Part}
use Rattle.mirror_ops.specs.declared.names.Part.TheVariants.{Component, Architecture}
use Rattle.mirror_ops.specs.Settings.{bad_among, bad_path, bad_settings, bad_text, bad_word, bare_mirror, filter_tree, filtered, fits, tree_said, written}
use Rattle.mirror_lists.specs.Mirrors.{unknown_mirror}
use Rattle.mirror_lists.proofs.MirrorLemmas.{own_mirror}
use Rattle.mirror_ops.specs.Cases.{bad_mirror, created, taken, with_mirror}
use Rattle.mirror_ops.proofs.NameLists.{names_are, word_is}
use Rattle.mirror_ops.proofs.StateLemmas.{valid_more}

-- ---- every reply is some bytes

pub line_some : (text : List ℕ) → line text ≢ []
unfolding line
line_some text e = absurd (omega (arith, ap length e, length-append text (10 ∷ [])))

pub front_some : (xs ys : List ℕ) → xs ≢ [] → xs ++ ys ≢ []
front_some [] ys h e = h refl
front_some (x ∷ xs) ys h e = cc

created_some : (name : List ℕ) → replies.mirror_created name ≢ []
unfolding replies.mirror_created
created_some name = line_some _

-- ---- refusals by words and names

own_word : (good : Bool) (text : List ℕ) → Own (bad_word good text)
own_word good text = own_if good None (Some (BadName text)) tt tt

own_among : (part : Part) (texts : List (List ℕ)) → Own (bad_among part texts)
own_among part [] = tt
own_among part (text ∷ texts) = own_else (bad_word (fits part text) text) (bad_among part texts) (own_word (fits part text) text) (own_among part texts)

own_text : (filter : Option (List ℕ)) → Own (bad_text filter)
own_text None = tt
own_text (Some text) = own_word (is_utf8 text) text

pub own_settings : (architectures : Option (List (List ℕ))) (filter : Option (List ℕ)) (name archive distribution : List ℕ) (components : List (List ℕ)) → Own (bad_settings architectures filter name archive distribution components)
own_settings architectures filter name archive distribution components =
    own_else (bad_among Architecture (written architectures)) _ (own_among Architecture (written architectures))
    (own_else (bad_text filter) _ (own_text filter)
    (own_else (bad_name name) _ (own_name name)
    (own_else (bad_path 200 archive) _ (own_word (is_path 200 archive) archive)
    (own_else (bad_path 100 distribution) (bad_among Component components) (own_word (is_path 100 distribution) distribution) (own_among Component components)))))

pub own_taken : (mirrors : List MirrorView) (name : List ℕ) → Own (taken mirrors name)
own_taken mirrors name = own_if (is_some (mirror_of name mirrors)) (Some (Exists kinds.Mirror name)) None tt tt

pub own_called : (state : StateView) (name : List ℕ) → Own (bad_mirror state name)
own_called state name = own_else (bad_name name) (unknown_mirror state.mirrors name) (own_name name) (own_mirror state.mirrors name)

-- a name of the words is one
pub name_is : (name : List ℕ) → bad_name name ≡ None → is_name name ≡ true
name_is name = by_name (is_name name)
  where
    by_name : (b : Bool) → (if b then None else Some (BadName name)) ≡ None → b ≡ true
    by_name true h = refl
    by_name false h = cc

-- ---- laws of a case

-- what a command that is refused first for this, and comes to this, keeps to
pub record Keeps (state : StateView) (early : Option Refusal) (came : Came) : Type 0 where
  pub valid : Valid state → early ≡ None → IfChanges came (λ reply new. Valid new)
  pub says : IfChanges came (λ reply new. reply ≢ [])
  pub knows : (arrived : Arrived) → IfChanges came (λ reply new. IsFrom state arrived new)
  pub own : Own early
  pub told : (arrived : Arrived) → IfRefuses came (OwnOr arrived)

pub plain_law : (state : StateView) (May : Arrived → Type 0) (early : Option Refusal) (came : Came) → Keeps state early came → IsLawful state May (plain_case early came)
plain_law state May early came k = record {
  valid = λ v e late arrived may. k.valid v e;
  says = λ arrived. k.says;
  knows = k.knows;
  early = k.own;
  late = tt;
  comes = λ arrived may. k.told arrived;
}

pub asking_law : (state : StateView) (May : Arrived → Type 0) (early : Option Refusal) (queries : List (List ℕ)) (came : Came) → Keeps state early came → IsLawful state May (asking_case early queries came)
asking_law state May early queries came k = record {
  valid = λ v e late arrived may. k.valid v (first_none early (bad_queries queries) e);
  says = λ arrived. k.says;
  knows = k.knows;
  early = own_else early (bad_queries queries) k.own (own_queries queries);
  late = tt;
  comes = λ arrived may. k.told arrived;
}

-- a command that tells something and changes nothing
pub telling : (state : StateView) (early : Option Refusal) (reply : List ℕ) → reply ≢ [] → Own early → Keeps state early (changes reply state)
telling state early reply some good = record { valid = λ v e. v; says = some; knows = λ arrived. from_known state arrived; own = good; told = λ arrived. tt }

-- a command that changes the mirrors alone
pub changing : (state : StateView) (mirrors : List MirrorView) (early : Option Refusal) (reply : List ℕ) → (Valid state → early ≡ None → Valid (record state { mirrors = mirrors })) → reply ≢ [] → Own early → Keeps state early (changes reply (record state { mirrors = mirrors }))
changing state mirrors early reply valid some good = record { valid = valid; says = some; knows = λ arrived. from_known state arrived; own = good; told = λ arrived. tt }

-- ---- a new mirror

module _ (state : StateView) (early : Option Refusal) (mirror : MirrorView) (is : early ≡ None → IsMirror mirror) (never : mirror.updated ≡ None) (good : Own early) where
  abbrev if_full : Bool → Came
  if_full full = if full then refuses (Limit limits.Mirrors) else changes (replies.mirror_created mirror.name) (with_mirror state mirror)

  pub created_keeps : Keeps state early (created state mirror)
  created_keeps = record {
    valid = λ v e. by_valid v e (nat_le 10000 (length state.mirrors)) refl;
    says = by_says (nat_le 10000 (length state.mirrors));
    knows = λ arrived. by_knows arrived (nat_le 10000 (length state.mirrors));
    own = good;
    told = λ arrived. by_refuses arrived (nat_le 10000 (length state.mirrors));
  }
    where
      by_valid : Valid state → early ≡ None → (b : Bool) → nat_le 10000 (length state.mirrors) ≡ b → IfChanges (if_full b) (λ reply new. Valid new)
      by_valid v e true f = tt
      by_valid v e false f = valid_more state v mirror (is e) (rw never tt) (search rules)

      by_says : (b : Bool) → IfChanges (if_full b) (λ reply new. reply ≢ [])
      by_says true = tt
      by_says false = created_some mirror.name

      by_knows : (arrived : Arrived) (b : Bool) → IfChanges (if_full b) (λ reply new. IsFrom state arrived new)
      by_knows arrived true = tt
      by_knows arrived false = from_known state arrived

      by_refuses : (arrived : Arrived) (b : Bool) → IfRefuses (if_full b) (OwnOr arrived)
      by_refuses arrived true = inl tt
      by_refuses arrived false = tt

-- the filter that is written is one
filter_is : (filter : Option (List ℕ)) → bad_text filter ≡ None → IfSome (filter_tree filter) IsFilter
filter_is None h = tt
filter_is (Some text) h = by_said (query_of text) refl
  where
    by_said : (r : Result Tree ℕ) → query_of text ≡ r → IfSome (tree_said r) IsFilter
    by_said (Err place) e = tt
    by_said (Ok t) e = (text, IsUtf8-from_is_utf8 text (word_is (is_utf8 text) text h), (query_spelled text t e).0)

-- a mirror of good settings is as it has to be
pub mirror_is : (architectures : Option (List (List ℕ))) (filter : Option (List ℕ)) (with_deps : Option Bool) (name archive distribution : List ℕ) (components : List (List ℕ))
    → bad_settings architectures filter name archive distribution components ≡ None → IsMirror (filtered filter with_deps (bare_mirror architectures name archive distribution components))
mirror_is architectures filter with_deps name archive distribution components h =
    let archs = first_none (bad_among Architecture (written architectures)) _ h in
    let behind_archs = second_none (bad_among Architecture (written architectures)) _ h in
    let text = first_none (bad_text filter) _ behind_archs in
    let behind_text = second_none (bad_text filter) _ behind_archs in
    let behind_name = second_none (bad_name name) _ behind_text in
    let behind_archive = second_none (bad_path 200 archive) _ behind_name in
    record {
      name = name_is name (first_none (bad_name name) _ behind_text);
      archive = word_is (is_path 200 archive) archive (first_none (bad_path 200 archive) _ behind_name);
      distribution = word_is (is_path 100 distribution) distribution (first_none (bad_path 100 distribution) (bad_among Component components) behind_archive);
      components = names_are Component components (second_none (bad_path 100 distribution) (bad_among Component components) behind_archive);
      architectures = names_are Architecture (written architectures) archs;
      filter = filter_is filter text;
      updated = tt;
    }
