-- A project in which a spread becomes an inline fragment, its places kept.
use Rattle.std.proofs.Common.{◌≡◌, ℕ, suc, ◌+◌, Bool, true, false, List, [], ◌∷◌, ◌++◌, Option, Some, None, map, flat_map, refl, sym, ap, ◌∙◌, arith}
use Rattle.std.specs.Prelude.{◌&&◌, not, nat_eq, filter, if◌then◌else◌}
use Rattle.std.specs.List.{enumerate_from}
use Rattle.std.specs.Option.{option_map}
use Rattle.std.proofs.lemmas.List.{map-append, append-nil}
use Rattle.std.proofs.lemmas.List.Elements.{filter-append}
use Rattle.gq_text.specs.declared.place.Span.{Span}
use Rattle.gq_tree.specs.Plain.{Def, operation, fragment, type_system, no_place, place_name, place_variable, place_directive, place_def, erase_all, erase_document}
use Rattle.gq_tree.specs.Readings.{ParsedOf, tree, definitions_read, in_document, in_documents}
use Rattle.gq_types.specs.Entries.{EntryOf}
use Rattle.gq_types.specs.BuiltIn.{built_in}
use Rattle.gq_document.specs.Definitions.{OperationOf, FragmentOf, operation_in, fragment_in, entry_in, operations_of, fragments_of, entries_of}
use Rattle.gq_document.specs.Executable.{ExecutableOf}
use Rattle.gq_rewritten.specs.Rewrites.{with_inlined, with_set, is_kept, rewritten_document, rewritten_from, DefinitionPlace}
use Rattle.gq_laws.specs.Rewriting.Edits.{SpreadAt, inlining}
use Rattle.gq_laws.proofs.RewrittenValid.InlinedSets.{inlined_set, set_forgets, set_elsewhere}

abbrev pub inlined_def : SpreadAt → ℕ → Def Span → Def Span
inlined_def s file (operation kind name variables directives set braces place) = operation kind name variables directives (inlined_set s file set) braces place
inlined_def s file (fragment name on directives set braces place) = fragment name on directives (inlined_set s file set) braces place
inlined_def s file (type_system definition) = type_system definition

abbrev pub inlined_document : SpreadAt → ℕ → List (Def Span) → List (Def Span)
inlined_document s file ds = map (inlined_def s file) (filter (is_kept s.dropped file) ds)

-- the documents, the first of which has that number
abbrev pub inlined_from : SpreadAt → ℕ → List ParsedOf → List ParsedOf
inlined_from s file [] = []
inlined_from s file (r ∷ rs) = tree (inlined_document s file (definitions_read r)) ∷ inlined_from s (file + 1) rs

-- Places forgotten, they are what the rewrite makes.
here_forgets : (s : SpreadAt) (file : ℕ) → nat_eq s.file file ≡ true → (ds : List (Def Span)) →
    erase_document (map (inlined_def s file) ds) ≡ map (with_set (with_inlined s.place s.on (erase_all s.set))) ds
here_forgets s file e [] = refl
here_forgets s file e (operation kind name variables directives set braces place ∷ ds) =
    ap (λ z. operation kind (option_map (place_name no_place) name) (map (place_variable no_place) variables) (map (place_directive no_place) directives) z tt tt
    ∷ erase_document (map (inlined_def s file) ds)) (set_forgets s file e set)
    ∙ ap (λ z. with_set (with_inlined s.place s.on (erase_all s.set)) (operation kind name variables directives set braces place) ∷ z) (here_forgets s file e ds)
here_forgets s file e (fragment name on directives set braces place ∷ ds) =
    ap (λ z. fragment (place_name no_place name) (place_name no_place on) (map (place_directive no_place) directives) z tt tt
    ∷ erase_document (map (inlined_def s file) ds)) (set_forgets s file e set)
    ∙ ap (λ z. with_set (with_inlined s.place s.on (erase_all s.set)) (fragment name on directives set braces place) ∷ z) (here_forgets s file e ds)
here_forgets s file e (type_system definition ∷ ds) = ap (λ z. place_def no_place (type_system definition) ∷ z) (here_forgets s file e ds)

there_same : (s : SpreadAt) (file : ℕ) → nat_eq s.file file ≡ false → (ds : List (Def Span)) → map (inlined_def s file) ds ≡ ds
there_same s file e [] = refl
there_same s file e (operation kind name variables directives set braces place ∷ ds) =
    ap (λ z. operation kind name variables directives z braces place ∷ map (inlined_def s file) ds) (set_elsewhere s file e set)
    ∙ ap (λ z. operation kind name variables directives set braces place ∷ z) (there_same s file e ds)
there_same s file e (fragment name on directives set braces place ∷ ds) =
    ap (λ z. fragment name on directives z braces place ∷ map (inlined_def s file) ds) (set_elsewhere s file e set)
    ∙ ap (λ z. fragment name on directives set braces place ∷ z) (there_same s file e ds)
there_same s file e (type_system definition ∷ ds) = ap (λ z. type_system definition ∷ z) (there_same s file e ds)

abbrev made : SpreadAt → ℕ → List (Def Span) → Bool → List (Def (Unit {0}))
made s file ds b =
    if b then map (with_set (with_inlined s.place s.on (erase_all s.set))) (filter (is_kept s.dropped file) ds) ++ []
    else map (place_def no_place) (filter (is_kept s.dropped file) ds)

document_forgets : (s : SpreadAt) (file : ℕ) (ds : List (Def Span)) → erase_document (inlined_document s file ds) ≡ rewritten_document (inlining s) file ds
document_forgets s file ds = by (nat_eq s.file file) refl
  where
    by : (b : Bool) → nat_eq s.file file ≡ b → erase_document (inlined_document s file ds) ≡ rewritten_document (inlining s) file ds
    by true e =
        here_forgets s file e (filter (is_kept s.dropped file) ds)
        ∙ sym (append-nil (map (with_set (with_inlined s.place s.on (erase_all s.set))) (filter (is_kept s.dropped file) ds)))
        ∙ sym (ap (made s file ds) e)
    by false e = ap erase_document (there_same s file e (filter (is_kept s.dropped file) ds)) ∙ sym (ap (made s file ds) e)

pub trees_forget : (s : SpreadAt) (file : ℕ) (rs : List ParsedOf) → map erase_document (map definitions_read (inlined_from s file rs)) ≡ rewritten_from (inlining s) file (map definitions_read rs)
trees_forget s file [] = refl
trees_forget s file (r ∷ rs) =
    let next : file + 1 ≡ suc file = omega arith in
    ap (λ z. z ∷ map erase_document (map definitions_read (inlined_from s (file + 1) rs))) (document_forgets s file (definitions_read r))
    ∙ ap (λ z. rewritten_document (inlining s) file (definitions_read r) ∷ z) (trees_forget s (file + 1) rs)
    ∙ ap (λ n. rewritten_document (inlining s) file (definitions_read r) ∷ rewritten_from (inlining s) n (map definitions_read rs)) next

-- What is gathered in the documents: what was gathered, changed, and without what does not stay.
module _ {A : Type 0} (s : SpreadAt) (what : ℕ → Def Span → List A) (change : A → A) (stays : A → Bool)
    (each : (n : ℕ) (d : Def Span) (b : Bool) → is_kept s.dropped n d ≡ b → (if b then what n (inlined_def s n d) else []) ≡ map change (filter stays (what n d))) where
  abbrev document : ℕ → Def Span → List (Def Span) → Bool → List A
  document n d ds b = flat_map (what n) (map (inlined_def s n) (if b then d ∷ filter (is_kept s.dropped n) ds else filter (is_kept s.dropped n) ds))

  in_one : (n : ℕ) (ds : List (Def Span)) → flat_map (what n) (inlined_document s n ds) ≡ map change (filter stays (flat_map (what n) ds))
  in_one n [] = refl
  in_one n (d ∷ ds) = by (is_kept s.dropped n d) refl (in_one n ds)
    where
      parts : map change (filter stays (flat_map (what n) (d ∷ ds))) ≡ map change (filter stays (what n d)) ++ map change (filter stays (flat_map (what n) ds))
      parts = ap (map change) (filter-append stays (what n d) (flat_map (what n) ds)) ∙ map-append change (filter stays (what n d)) (filter stays (flat_map (what n) ds))

      by : (b : Bool) → is_kept s.dropped n d ≡ b → flat_map (what n) (inlined_document s n ds) ≡ map change (filter stays (flat_map (what n) ds)) →
          flat_map (what n) (inlined_document s n (d ∷ ds)) ≡ map change (filter stays (flat_map (what n) (d ∷ ds)))
      by true e i =
          ap (document n d ds) e
          ∙ ap (λ z. z ++ flat_map (what n) (inlined_document s n ds)) (each n d true e)
          ∙ ap (λ z. map change (filter stays (what n d)) ++ z) i
          ∙ sym parts
      by false e i =
          ap (document n d ds) e
          ∙ i
          ∙ ap (λ z. z ++ map change (filter stays (flat_map (what n) ds))) (each n d false e)
          ∙ sym parts

  in_all : (n : ℕ) (rs : List ParsedOf) →
      flat_map (λ r. in_document what r.0 r.1) (enumerate_from n (inlined_from s n rs)) ≡ map change (filter stays (flat_map (λ r. in_document what r.0 r.1) (enumerate_from n rs)))
  in_all n [] = refl
  in_all n (r ∷ rs) =
      ap (λ z. z ++ flat_map (λ r. in_document what r.0 r.1) (enumerate_from (n + 1) (inlined_from s (n + 1) rs))) (in_one n (definitions_read r))
      ∙ ap (λ z. map change (filter stays (in_document what n r)) ++ z) (in_all (n + 1) rs)
      ∙ sym (map-append change (filter stays (in_document what n r)) (filter stays (flat_map (λ r. in_document what r.0 r.1) (enumerate_from (n + 1) rs))))
      ∙ ap (map change) (sym (filter-append stays (in_document what n r) (flat_map (λ r. in_document what r.0 r.1) (enumerate_from (n + 1) rs))))

  gathered : (rs : List ParsedOf) → in_documents what (inlined_from s 0 rs) ≡ map change (filter stays (in_documents what rs))
  gathered rs = in_all 0 rs

abbrev pub inlined_operation : SpreadAt → OperationOf → OperationOf
inlined_operation s o = record {
  file = o.file;
  kind = o.kind;
  name = o.name;
  variables = o.variables;
  directives = o.directives;
  set = inlined_set s o.file o.set;
  braces = o.braces;
  place = o.place;
}

abbrev pub inlined_fragment : SpreadAt → FragmentOf → FragmentOf
inlined_fragment s f = record { file = f.file; name = f.name; on = f.on; directives = f.directives; set = inlined_set s f.file f.set; braces = f.braces; place = f.place }

abbrev pub operation_stays : SpreadAt → OperationOf → Bool
operation_stays s o = is_kept s.dropped o.file (operation o.kind o.name o.variables o.directives o.set o.braces o.place)

abbrev pub fragment_stays : SpreadAt → FragmentOf → Bool
fragment_stays s f = is_kept s.dropped f.file (fragment f.name f.on f.directives f.set f.braces f.place)

abbrev entry_stays : SpreadAt → EntryOf → Bool
entry_stays s e = is_kept s.dropped e.file (type_system e.definition)

operation_each : (s : SpreadAt) (n : ℕ) (d : Def Span) (b : Bool) → is_kept s.dropped n d ≡ b →
    (if b then operation_in n (inlined_def s n d) else []) ≡ map (inlined_operation s) (filter (operation_stays s) (operation_in n d))
operation_each s n (operation kind name variables directives set braces place) true e =
    let o : OperationOf = record { file = n; kind = kind; name = name; variables = variables; directives = directives; set = set; braces = braces; place = place } in
    ap (λ z. map (inlined_operation s) (if z then o ∷ [] else [])) (sym e)
operation_each s n (operation kind name variables directives set braces place) false e =
    let o : OperationOf = record { file = n; kind = kind; name = name; variables = variables; directives = directives; set = set; braces = braces; place = place } in
    ap (λ z. map (inlined_operation s) (if z then o ∷ [] else [])) (sym e)
operation_each s n (fragment name on directives set braces place) true e = refl
operation_each s n (fragment name on directives set braces place) false e = refl
operation_each s n (type_system definition) true e = refl
operation_each s n (type_system definition) false e = refl

fragment_each : (s : SpreadAt) (n : ℕ) (d : Def Span) (b : Bool) → is_kept s.dropped n d ≡ b →
    (if b then fragment_in n (inlined_def s n d) else []) ≡ map (inlined_fragment s) (filter (fragment_stays s) (fragment_in n d))
fragment_each s n (fragment name on directives set braces place) true e =
    let f : FragmentOf = record { file = n; name = name; on = on; directives = directives; set = set; braces = braces; place = place } in
    ap (λ z. map (inlined_fragment s) (if z then f ∷ [] else [])) (sym e)
fragment_each s n (fragment name on directives set braces place) false e =
    let f : FragmentOf = record { file = n; name = name; on = on; directives = directives; set = set; braces = braces; place = place } in
    ap (λ z. map (inlined_fragment s) (if z then f ∷ [] else [])) (sym e)
fragment_each s n (operation kind name variables directives set braces place) true e = refl
fragment_each s n (operation kind name variables directives set braces place) false e = refl
fragment_each s n (type_system definition) true e = refl
fragment_each s n (type_system definition) false e = refl

entry_each : (s : SpreadAt) (n : ℕ) (d : Def Span) (b : Bool) → is_kept s.dropped n d ≡ b →
    (if b then entry_in n (inlined_def s n d) else []) ≡ map (λ (x : EntryOf). x) (filter (entry_stays s) (entry_in n d))
entry_each s n (type_system definition) true e =
    let x : EntryOf = record { file = n; definition = definition } in
    ap (λ z. map (λ (y : EntryOf). y) (if z then x ∷ [] else [])) (sym e)
entry_each s n (type_system definition) false e =
    let x : EntryOf = record { file = n; definition = definition } in
    ap (λ z. map (λ (y : EntryOf). y) (if z then x ∷ [] else [])) (sym e)
entry_each s n (operation kind name variables directives set braces place) true e = refl
entry_each s n (operation kind name variables directives set braces place) false e = refl
entry_each s n (fragment name on directives set braces place) true e = refl
entry_each s n (fragment name on directives set braces place) false e = refl

-- definitions of the type system stay
entries_stay : (s : SpreadAt) (x : EntryOf) → entry_stays s x ≡ true
entries_stay s x = by s.dropped
  where
    no_place_there : (b : Bool) → not (b && false) ≡ true
    no_place_there true = refl
    no_place_there false = refl

    by : (dropped : Option DefinitionPlace) → is_kept dropped x.file (type_system x.definition) ≡ true
    by None = refl
    by (Some dropped) = no_place_there (nat_eq dropped.file x.file)

all_stay : {A : Type 0} (stays : A → Bool) → ((x : A) → stays x ≡ true) → (xs : List A) → map (λ (x : A). x) (filter stays xs) ≡ xs
all_stay {A} stays all [] = refl
all_stay {A} stays all (x ∷ xs) = ap (λ z. map (λ (y : A). y) (if z then x ∷ filter stays xs else filter stays xs)) (all x) ∙ ap (λ z. x ∷ z) (all_stay stays all xs)

-- the operations and fragments in which the spread is inlined
abbrev pub inlined_executable : SpreadAt → ExecutableOf → ExecutableOf
inlined_executable s x = record {
  entries = x.entries;
  operations = map (inlined_operation s) (filter (operation_stays s) x.operations);
  fragments = map (inlined_fragment s) (filter (fragment_stays s) x.fragments);
}

-- what the documents hold
abbrev pub executable_read : List ParsedOf → ExecutableOf
executable_read rs = record { entries = built_in ++ entries_of rs; operations = operations_of rs; fragments = fragments_of rs }

pub project_inlined : (s : SpreadAt) (rs : List ParsedOf) → executable_read (inlined_from s 0 rs) ≡ inlined_executable s (executable_read rs)
project_inlined s rs =
    ap (λ z. let x : ExecutableOf = record { entries = built_in ++ z; operations = operations_of (inlined_from s 0 rs); fragments = fragments_of (inlined_from s 0 rs) } in x)
    (gathered s entry_in (λ x. x) (entry_stays s) (entry_each s) rs ∙ all_stay (entry_stays s) (entries_stay s) (entries_of rs))
    ∙ ap (λ z. let x : ExecutableOf = record { entries = built_in ++ entries_of rs; operations = z; fragments = fragments_of (inlined_from s 0 rs) } in x)
    (gathered s operation_in (inlined_operation s) (operation_stays s) (operation_each s) rs)
    ∙ ap (λ z. let x : ExecutableOf = record { entries = built_in ++ entries_of rs; operations = map (inlined_operation s) (filter (operation_stays s) (operations_of rs)); fragments = z } in x)
    (gathered s fragment_in (inlined_fragment s) (fragment_stays s) (fragment_each s) rs)
