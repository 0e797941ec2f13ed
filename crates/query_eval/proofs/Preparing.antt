-- How the preparing of one condition after another adds up.
use Rattle.std.proofs.Common.{◌≡◌, ℕ, ◌+◌, ◌≤◌, List, [], ◌∷◌, ◌++◌, length, All, Option, Some, Ok, Err, refl, sym, ap, ◌∙◌, arith, append_assoc, append-nil, length-append, map, take, drop, get_or, ◌<◌, add-one}
use Rattle.std.proofs.lemmas.List.{map-append, take_more}
use Rattle.std.proofs.Math.Seq.{drop-cons}
use Rattle.std.proofs.lemmas.List.Elements.{All-nil, All-append, All-same}
use Rattle.query_eval.specs.declared.fault.EvalFault.{EvalFault}
use Rattle.query_eval.specs.declared.fault.EvalFault.TheVariants.{BadPattern, PatternTooLarge, OutOfMemory}
use Rattle.query_tree.specs.declared.query.Query.{Query}
use Rattle.query_tree.specs.Tree.{plain, plains, listed}
use Rattle.query_eval.specs.declared.node.Node.{Node}
use Rattle.query_eval.specs.Preparing.{node_tree}
use Rattle.ap_host.specs.Calls.{Rose}
use Rattle.query_eval.specs.Build.{IsNoPattern}
use Rattle.query_eval.specs.Conditions.{patterns_of, patterns_in, IsPattern, IsCondition, Prepares}

only_condition : (before number : ℕ) (text : List ℕ) → number ≡ before + 1 → IsCondition before (text ∷ []) number text
only_condition before number text e = record { earlier = []; later = []; split = refl; number_is = omega arith; read = All-nil IsPattern }

pub bad_one : {X : Type 0} (before number : ℕ) (text : List ℕ) (old new : ℕ) (refused now_refused : Option (List ℕ)) → number ≡ before + 1 → IsNoPattern text → old ≤ new → now_refused ≡ refused → Prepares {X = X} before (text ∷ []) old new refused now_refused (Err (BadPattern number))
bad_one before number text old new refused now_refused e no_pattern falls kept = record {
  read = tt;
  fault = (text, only_condition before number text e, no_pattern);
  never_falls = falls;
  kept = kept;
}

pub large_one : {X : Type 0} (before number : ℕ) (text : List ℕ) (old new : ℕ) (refused now_refused : Option (List ℕ)) → number ≡ before + 1 → Rose old new → now_refused ≡ Some text → old ≤ new → Prepares {X = X} before (text ∷ []) old new refused now_refused (Err (PatternTooLarge number))
large_one before number text old new refused now_refused e rose named falls = record {
  read = tt;
  fault = (text, only_condition before number text e, named, rose);
  never_falls = falls;
  kept = tt;
}

rose_from : (old mid new : ℕ) → old ≤ mid → Rose mid new → Rose old new
rose_from old mid new falls rose = omega (arith, rose, falls)

-- some of the conditions behind so many others are prepared, and these are left
pub record Done (before : ℕ) (texts rest : List (List ℕ)) (count old now : ℕ) (refused now_refused : Option (List ℕ)) : Type 0 where
  pub done : List (List ℕ)
  pub split : texts ≡ done ++ rest
  pub count_is : count ≡ before + length done
  pub read : All IsPattern done
  pub never_falls : old ≤ now
  pub kept : now_refused ≡ refused

pub done_none : (before : ℕ) (texts : List (List ℕ)) (old : ℕ) (refused : Option (List ℕ)) → Done before texts texts before old old refused refused
done_none before texts old refused = record { done = []; split = refl; count_is = omega arith; read = All-nil IsPattern; never_falls = omega arith; kept = refl }

pub done_more : (before : ℕ) (texts more rest : List (List ℕ)) (count after old mid new : ℕ) (refused mid_refused new_refused : Option (List ℕ)) → Done before texts (more ++ rest) count old mid refused mid_refused → All IsPattern more → after ≡ count + length more → mid ≤ new → new_refused ≡ mid_refused → Done before texts rest after old new refused new_refused
done_more before texts more rest count after old mid new refused mid_refused new_refused d read counted falls kept = record {
  done = d.done ++ more;
  split = d.split ∙ sym (append_assoc d.done more rest);
  count_is = omega (arith, counted, d.count_is, length-append d.done more);
  read = All-append IsPattern d.done more d.read read;
  never_falls = omega (arith, d.never_falls, falls);
  kept = kept ∙ d.kept;
}

condition_later : (before count number : ℕ) (done more rest texts : List (List ℕ)) (text : List ℕ) → texts ≡ done ++ (more ++ rest) → count ≡ before + length done → All IsPattern done → IsCondition count more number text → IsCondition before texts number text
condition_later before count number done more rest texts text split counted read c = record {
  earlier = done ++ c.earlier;
  later = c.later ++ rest;
  split = split ∙ ap (λ m. done ++ (m ++ rest)) c.split ∙ ap (λ m. done ++ m) (append_assoc c.earlier (text ∷ c.later) rest) ∙ sym (append_assoc done c.earlier (text ∷ (c.later ++ rest)));
  number_is = omega (arith, counted, c.number_is, length-append done c.earlier);
  read = All-append IsPattern done c.earlier read c.read;
}

pub done_refused : {X Y : Type 0} (before : ℕ) (texts more rest : List (List ℕ)) (count old mid new : ℕ) (refused mid_refused new_refused : Option (List ℕ)) (e : EvalFault) → Done before texts (more ++ rest) count old mid refused mid_refused → Prepares {X = X} count more mid new mid_refused new_refused (Err e) → Prepares {X = Y} before texts old new refused new_refused (Err e)
done_refused before texts more rest count old mid new refused mid_refused new_refused (BadPattern n) d p = record {
  read = tt;
  fault = (p.fault.0, condition_later before count n d.done more rest texts p.fault.0 d.split d.count_is d.read p.fault.1, p.fault.2);
  never_falls = omega (arith, d.never_falls, p.never_falls);
  kept = p.kept ∙ d.kept;
}
done_refused before texts more rest count old mid new refused mid_refused new_refused (PatternTooLarge n) d p = record {
  read = tt;
  fault = (p.fault.0, condition_later before count n d.done more rest texts p.fault.0 d.split d.count_is d.read p.fault.1, p.fault.2, rose_from old mid new d.never_falls p.fault.3);
  never_falls = omega (arith, d.never_falls, p.never_falls);
  kept = tt;
}
done_refused before texts more rest count old mid new refused mid_refused new_refused OutOfMemory d p = record {
  read = tt;
  fault = tt;
  never_falls = omega (arith, d.never_falls, p.never_falls);
  kept = p.kept ∙ d.kept;
}

pub done_all : {X : Type 0} (before : ℕ) (texts : List (List ℕ)) (count old new : ℕ) (refused new_refused : Option (List ℕ)) (x : X) → Done before texts [] count old new refused new_refused → (count ≡ before + length texts) × Prepares before texts old new refused new_refused (Ok x)
done_all before texts count old new refused new_refused x d =
    let whole : texts ≡ d.done = d.split ∙ append-nil d.done in
    (omega (arith, d.count_is, ap length whole), record { read = All-same IsPattern texts d.done whole d.read; fault = tt; never_falls = d.never_falls; kept = d.kept })

-- memory ran out behind conditions that were prepared
pub done_no_memory : {X : Type 0} (before : ℕ) (texts rest : List (List ℕ)) (count old new : ℕ) (refused new_refused : Option (List ℕ)) → Done before texts rest count old new refused new_refused → Prepares {X = X} before texts old new refused new_refused (Err OutOfMemory)
done_no_memory before texts rest count old new refused new_refused d = record { read = tt; fault = tt; never_falls = d.never_falls; kept = d.kept }

-- the conditions of the queries from one on are its own and those of the others
pub patterns_next : (queries : List Query) (query : Query) (i : ℕ) → i < length queries → query ≡ get_or queries i query → patterns_in (listed (plains (drop i queries))) ≡ patterns_of (plain query) ++ patterns_in (listed (plains (drop (i + 1) queries)))
patterns_next queries query i h e =
    ap (λ l. patterns_in (listed (plains l))) (drop-cons queries i query h)
    ∙ ap (λ n. patterns_of (plain (get_or queries i query)) ++ patterns_in (listed (plains (drop n queries)))) (sym (add-one i))
    ∙ ap (λ q. patterns_of (plain q) ++ patterns_in (listed (plains (drop (i + 1) queries)))) (sym e)

pub nodes_next : (nodes more : List Node) (queries : List Query) (query : Query) (node : Node) (i : ℕ) → i < length queries → query ≡ get_or queries i query → map node_tree nodes ≡ plains (take i queries) → node_tree node ≡ plain query → more ≡ nodes ++ node ∷ [] → map node_tree more ≡ plains (take (i + 1) queries)
nodes_next nodes more queries query node i h e before same pushed =
    ap (map node_tree) pushed ∙ map-append node_tree nodes (node ∷ [])
    ∙ ap (λ ts. ts ++ node_tree node ∷ []) before ∙ ap (λ t. plains (take i queries) ++ t ∷ []) (same ∙ ap plain e)
    ∙ sym (map-append plain (take i queries) (get_or queries i query ∷ []))
    ∙ ap plains (sym (take_more queries i query h))
