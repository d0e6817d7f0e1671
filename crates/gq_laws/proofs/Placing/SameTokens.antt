-- Texts with the same tokens have the same definitions of types, their places forgotten.
use Rattle.std.proofs.Common.{◌≡◌, ℕ, ◌+◌, ◌≤◌, ◌^◌, List, [], ◌∷◌, ◌++◌, Bool, true, false, cond, append-nil, length, map, take, refl, sym, ap, subst, ◌∙◌}
use Rattle.std.specs.Prelude.{flat_map, fold, if◌then◌else◌}
use Rattle.std.proofs.lemmas.List.{length-map, take-map}
use Rattle.gq_text.specs.declared.place.Span.{Span}
use Rattle.gq_lex.specs.declared.token.Kind.{Kind}
use Rattle.gq_lex.specs.Tokens.{Lexeme}
use Rattle.gq_lex.proofs.Readings.{one_reading}
use Rattle.gq_tree.specs.Forest.{labels}
use Rattle.gq_tree.specs.Plain.{NameOf, Head, Def, field, spread, inline, operation, fragment, type_system, erase_document}
use Rattle.gq_tree.specs.Readings as reading
use Rattle.gq_parse.specs.Grammar.{Tokens}
use Rattle.gq_parse.specs.Derives.{Derives}
use Rattle.gq_parse.specs.Documents.{IsDocument}
use Rattle.gq_parse.specs.Limits.{opens, closes, opened, closed, IsNestedWithin}
use Rattle.gq_parse.proofs.UniqueDocuments.{same_document}
use Rattle.gq_renamed.specs.Changed.{changed_name, changed_in_directives, changed_in_head, changed_in_selections, changed_in_def, changed_in_document}
use Rattle.gq_renamed.specs.Renamed.{next_number, rename_document}
use Rattle.gq_renamed.specs.Renamings.{nothing_renamed}
use Rattle.gq_renamed.proofs.DocumentAgain.{document_again}
use Rattle.gq_renamed.proofs.Regrammar.{name_in, marked_names, nothing_in, nothing_in_arguments, nothing_in_directives, no_change}
use Rattle.gq_renamed.proofs.Retelling.{Marked, Retold, text_by, tokens_of}
use Rattle.gq_laws.specs.Placing.Tokens.{Spelling, spelling_of, ReadAlike, SameTokensDefineAlike, types_in}

-- ---- where nothing is renamed, no token is marked

kept : (text : List ℕ) → nothing_renamed.variables text ≡ false
kept text = refl

head_kept : (h : Head Span) → changed_in_head nothing_renamed h ≡ []
head_kept (field alias name arguments directives braces place) =
    ap (λ (l : List (NameOf Span)). l ++ changed_in_directives nothing_renamed directives) (nothing_in_arguments nothing_renamed kept arguments) ∙ nothing_in_directives nothing_renamed kept directives
head_kept (spread name directives place) = nothing_in_directives nothing_renamed kept directives
head_kept (inline on directives braces place) = nothing_in_directives nothing_renamed kept directives

def_kept : (d : Def Span) → changed_in_def nothing_renamed d ≡ []
def_kept (operation kind name variables directives set braces place) =
    let in_set : changed_in_selections nothing_renamed set ≡ [] = nothing_in (changed_in_head nothing_renamed) head_kept (labels set) in
    ap (λ (l : List (NameOf Span)). l ++ (changed_in_directives nothing_renamed directives ++ changed_in_selections nothing_renamed set)) (nothing_in (λ v. changed_name nothing_renamed.variables v.name) (λ v. no_change nothing_renamed kept v.name) variables)
    ∙ ap (λ (l : List (NameOf Span)). l ++ changed_in_selections nothing_renamed set) (nothing_in_directives nothing_renamed kept directives)
    ∙ in_set
def_kept (fragment name on directives set braces place) =
    ap (λ (l : List (NameOf Span)). l ++ changed_in_selections nothing_renamed set) (nothing_in_directives nothing_renamed kept directives)
    ∙ nothing_in (changed_in_head nothing_renamed) head_kept (labels set)
def_kept (type_system d) = refl

document_kept : (k : ℕ) (ds : List (Def Span)) → changed_in_document (λ n. nothing_renamed) k ds ≡ []
document_kept k [] = refl
document_kept k (d ∷ ds) =
    ap (λ (l : List (NameOf Span)). l ++ changed_in_document (λ n. nothing_renamed) (next_number d k) ds) (def_kept d) ∙ document_kept (next_number d k) ds

-- the same tokens at other places retell those
spelled_head : (t u : Lexeme) (ts us : Tokens) → map spelling_of (t ∷ ts) ≡ map spelling_of (u ∷ us) → spelling_of t ≡ spelling_of u
spelled_head t u ts us same = cc

spelled_tail : (t u : Lexeme) (ts us : Tokens) → map spelling_of (t ∷ ts) ≡ map spelling_of (u ∷ us) → map spelling_of ts ≡ map spelling_of us
spelled_tail t u ts us same = cc

unmarked : (b : Bool) (n : NameOf Span) (ns : List (NameOf Span)) → (if b then n ∷ ns else ns) ≡ [] → (b ≡ false) × (ns ≡ [])
unmarked true n ns e = absurd (cc)
unmarked false n ns e = (refl, e)

retold : (new : List ℕ) (front : List Marked) (us : Tokens) → marked_names front ≡ [] → map spelling_of (tokens_of front) ≡ map spelling_of us → Retold new front us
retold new [] [] none same = tt
retold new [] (u ∷ us) none same = absurd (cc)
retold new (m ∷ front) [] none same = absurd (cc)
retold new (m ∷ front) (u ∷ us) none same =
    let w = unmarked m.marked (name_in m.token) (marked_names front) none in
    let head : spelling_of m.token ≡ spelling_of u = spelled_head m.token u (tokens_of front) us same in
    let kind_is : u.kind ≡ m.token.kind = sym (ap (λ (s : Spelling). s.kind) head) in
    let text_is : u.text ≡ m.token.text = sym (ap (λ (s : Spelling). s.text) head) in
    let by : u.text ≡ text_by m.marked new m.token.text = text_is ∙ sym (ap (λ (b : Bool). text_by b new m.token.text) w.0) in
    (kind_is, by, retold new front us w.1 (spelled_tail m.token u (tokens_of front) us same))

-- ---- the tree of the other text

types_kept : (k : ℕ) (new : List ℕ) (ds : List (Def (Unit {0}))) → flat_map types_in (rename_document (λ n. nothing_renamed) k new ds) ≡ flat_map types_in ds
types_kept k new [] = refl
types_kept k new (operation kind name variables directives set braces place ∷ ds) = types_kept (k + 1) new ds
types_kept k new (fragment name on directives set braces place ∷ ds) = types_kept (k + 1) new ds
types_kept k new (type_system d ∷ ds) = ap (λ l. d ∷ l) (types_kept k new ds)

record Again (ds : List (Def Span)) (us : Tokens) : Type 0 where
  tree : List (Def Span)
  is_document : IsDocument tree us
  alike : flat_map types_in (erase_document ds) ≡ flat_map types_in (erase_document tree)

reread : (ds : List (Def Span)) (ts us : Tokens) → IsDocument ds ts → map spelling_of ts ≡ map spelling_of us → Again ds us
reread ds ts us h same =
    let w = document_again {new = []} (λ n. nothing_renamed) 0 (λ n text e. absurd (cc)) h in
    let whole : ts ≡ tokens_of w.front = w.split ∙ append-nil (tokens_of w.front) in
    let again = retold [] w.front us (w.named ∙ document_kept 0 ds) (subst (λ (l : Tokens). map spelling_of l ≡ map spelling_of us) whole same) in
    let d = w.again us [] again tt refl in
    record {
      tree = d.0;
      is_document = subst (IsDocument d.0) (append-nil us) d.1;
      alike = sym (types_kept 0 [] (erase_document ds)) ∙ ap (flat_map types_in) (sym d.2);
    }

-- ---- it keeps the limits

counted : (p : Kind → Bool) (a : ℕ) (ts us : Tokens) → map spelling_of ts ≡ map spelling_of us → fold (λ n t. n + cond (p t.kind) 1 0) a ts ≡ fold (λ n t. n + cond (p t.kind) 1 0) a us
counted p a [] [] same = refl
counted p a [] (u ∷ us) same = absurd (cc)
counted p a (t ∷ ts) [] same = absurd (cc)
counted p a (t ∷ ts) (u ∷ us) same =
    let kind_is : t.kind ≡ u.kind = ap (λ (s : Spelling). s.kind) (spelled_head t u ts us same) in
    counted p (a + cond (p t.kind) 1 0) ts us (spelled_tail t u ts us same)
    ∙ ap (λ (k : Kind). fold (λ n (l : Lexeme). n + cond (p l.kind) 1 0) (a + cond (p k) 1 0) us) kind_is

nested_alike : (ts us : Tokens) → map spelling_of ts ≡ map spelling_of us → IsNestedWithin 100 ts → IsNestedWithin 100 us
nested_alike ts us same within n =
    let fronts : map spelling_of (take n ts) ≡ map spelling_of (take n us) = sym (take-map spelling_of n ts) ∙ ap (take n) same ∙ take-map spelling_of n us in
    let o : opened (take n ts) ≡ opened (take n us) = counted opens 0 (take n ts) (take n us) fronts in
    let c : closed (take n ts) ≡ closed (take n us) = counted closes 0 (take n ts) (take n us) fronts in
    let h : opened (take n ts) ≤ closed (take n ts) + 100 = within n in
    subst (λ (k : ℕ). k ≤ closed (take n us) + 100) o (subst (λ (k : ℕ). opened (take n ts) ≤ k + 100) c h)

derived : (text other : List ℕ) (ds : List (Def Span)) → ReadAlike text other → Derives text ds → (es : List (Def Span)) × Derives other es × (flat_map types_in (erase_document ds) ≡ flat_map types_in (erase_document es))
derived text other ds w d =
    let one : d.tokens ≡ w.tokens = one_reading text d.tokens w.tokens d.reads w.reads in
    let same : map spelling_of d.tokens ≡ map spelling_of w.others = ap (map spelling_of) one ∙ w.same in
    let again = reread ds d.tokens w.others d.derived same in
    let count : length d.tokens ≡ length w.others = sym (length-map d.tokens spelling_of) ∙ ap length same ∙ length-map w.others spelling_of in (
      again.tree,
      record {
        tokens = w.others;
        reads = w.reads_others;
        few = subst (λ (k : ℕ). k ≤ 2 ^ 20) count d.few;
        nested = nested_alike d.tokens w.others same d.nested;
        derived = again.is_document;
      },
      again.alike,
    )

one_tree_of : (text : List ℕ) (ds es : List (Def Span)) → Derives text ds → Derives text es → ds ≡ es
one_tree_of text ds es x y = same_document x.derived (one_reading text x.tokens y.tokens x.reads y.reads) y.derived

turned : (text other : List ℕ) → ReadAlike text other → ReadAlike other text
turned text other w = record { tokens = w.others; reads = w.reads_others; others = w.tokens; reads_others = w.reads; same = sym w.same }

pub define_alike : SameTokensDefineAlike
define_alike text other (reading.tree ds) (reading.tree es) w p q =
    let d = derived text other ds w p in
    d.2 ∙ ap (λ (fs : List (Def Span)). flat_map types_in (erase_document fs)) (one_tree_of other d.0 es d.1 q)
define_alike text other (reading.tree ds) (reading.syntax place) w p q = let d = derived text other ds w p in absurd (q.0 d.0 d.1)
define_alike text other (reading.tree ds) (reading.limit place) w p q = let d = derived text other ds w p in absurd (q.0 d.0 d.1)
define_alike text other (reading.syntax place) (reading.tree es) w p q = let d = derived other text es (turned text other w) q in absurd (p.0 d.0 d.1)
define_alike text other (reading.limit place) (reading.tree es) w p q = let d = derived other text es (turned text other w) q in absurd (p.0 d.0 d.1)
define_alike text other (reading.syntax place) (reading.syntax spot) w p q = refl
define_alike text other (reading.syntax place) (reading.limit spot) w p q = refl
define_alike text other (reading.limit place) (reading.syntax spot) w p q = refl
define_alike text other (reading.limit place) (reading.limit spot) w p q = refl
