use Rattle.std.proofs.Common.{◌≡◌, ℕ, ◌+◌, Bool, true, false, not, List, [], ◌∷◌, ◌++◌, map, take, drop, suc, refl, ap, sym, ◌∙◌, arith}
use Rattle.std.specs.BTreeSet.{insert_key}
use Rattle.std.specs.List.{list_any}
use Rattle.std.specs.Str.{bytes_eq}
use Rattle.std.proofs.lemmas.List.{map-append}
use Rattle.package_list.specs.Sorted.{union}
use Rattle.release_file.specs.Release.{are_different, path_of}
use Rattle.release_file.proofs.NameLemmas.{text_cmp, next_is, cut_at, one_key, among, twice, once_more}
use Rattle.release_file.proofs.once.have_different_paths.Goals as goal

of_added : (added there : Bool) → added ≡ not there → added ≡ false → there ≡ true
of_added added true a f = refl
of_added added false a f = cc

of_new : (added there : Bool) → added ≡ not there → added ≡ true → there ≡ false
of_new added false a f = refl
of_new added true a f = cc

pub returns-then-not-branch : goal.returns-then-not-branch
returns-then-not-branch c =
    let i = c.loop-file.file-index in
    let items = c.args.files.now in
    let x = c.file-item.result in
    let before = map path_of (take i items) in
    let same : c.new.result ≡ path_of x = c.new.ensures ∙ c.as_str.ensures.text in
    let there = of_added c.in_ok-insert.field-0 _ c.in_ok-insert.ensures.added c.if-not-branch.true in
    let old = sym (ap (λ p. list_any (λ q. bytes_eq p q) before) same) ∙ sym (among c.loop-file.seen.keys before c.new.result c.loop-file.invariant.0) ∙ there in
    let whole : map path_of items ≡ before ++ path_of x ∷ map path_of (drop (suc i) items) = ap (map path_of) (sym (cut_at items i x (omega arith) c.file-item.is)) ∙ map-append path_of (take i items) (x ∷ drop (suc i) items) in
    sym (ap are_different whole ∙ twice before (map path_of (drop (suc i) items)) (path_of x) old)

pub loop-file-preserved : goal.loop-file-preserved
loop-file-preserved c =
    let i = c.loop-file.file-index in
    let items = c.args.files.now in
    let x = c.file-item.result in
    let before = map path_of (take i items) in
    let same : c.new.result ≡ path_of x = c.new.ensures ∙ c.as_str.ensures.text in
    let there = of_new c.in_ok-insert.field-0 _ c.in_ok-insert.ensures.added c.if-not-branch.false in
    let old = sym (ap (λ p. list_any (λ q. bytes_eq p q) before) same) ∙ sym (among c.loop-file.seen.keys before c.new.result c.loop-file.invariant.0) ∙ there in
    let more : map path_of (take (i + 1) items) ≡ before ++ path_of x ∷ [] = ap (map path_of) (next_is items i x (omega arith) c.file-item.is) ∙ map-append path_of (take i items) (x ∷ []) in (
      one_key c.loop-file.seen.keys c.insert.new.self.keys before (path_of x) (c.in_ok-insert.ensures.keys ∙ ap (insert_key text_cmp c.loop-file.seen.keys) same) c.loop-file.invariant.0 ∙ ap (union text_cmp []) (sym more),
      ap are_different more ∙ once_more before (path_of x) c.loop-file.invariant.1 old,
    )
