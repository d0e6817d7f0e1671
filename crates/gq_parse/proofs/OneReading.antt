-- A text has but one tree, and one without a tree defines nothing, so all readings of documents define the same.
use Rattle.std.proofs.Common.{◌≡◌, ℕ, ◌+◌, List, [], ◌∷◌, ◌++◌, refl, ◌∙◌, ap}
use Rattle.std.specs.Prelude.{flat_map, map}
use Rattle.std.specs.List.{enumerate_from}
use Rattle.gq_text.specs.declared.place.Span.{Span}
use Rattle.gq_tree.specs.Plain.{Def}
use Rattle.gq_project.specs.declared.document.Doc.{Doc}
use Rattle.gq_parse.specs.Derives.{Derives}
use Rattle.gq_parse.specs.Faults.{IsSyntaxFault, IsLimitFault}
use Rattle.gq_tree.specs.Readings as reading
use Rattle.gq_parse.specs.Parsed.{IsParsed, AreParsed, none, more}
use Rattle.gq_tree.specs.Readings.{ParsedOf, definitions_read, in_document, in_documents}

-- no two trees of a text
abbrev pub OneTree : Type 0
OneTree = (text : List ℕ) (a b : List (Def Span)) → Derives text a → Derives text b → a ≡ b

module _ (one_tree : OneTree) where
  pub same_definitions : (text : List ℕ) (a b : ParsedOf) → IsParsed text a → IsParsed text b → definitions_read a ≡ definitions_read b
  same_definitions text (reading.tree d) (reading.tree e) p q = one_tree text d e p q
  same_definitions text (reading.tree d) (reading.syntax place) p q = absurd (q.0 d p)
  same_definitions text (reading.tree d) (reading.limit place) p q = absurd (q.0 d p)
  same_definitions text (reading.syntax place) (reading.tree e) p q = absurd (p.0 e q)
  same_definitions text (reading.syntax place) (reading.syntax other) p q = refl
  same_definitions text (reading.syntax place) (reading.limit other) p q = refl
  same_definitions text (reading.limit place) (reading.tree e) p q = absurd (p.0 e q)
  same_definitions text (reading.limit place) (reading.syntax other) p q = refl
  same_definitions text (reading.limit place) (reading.limit other) p q = refl

  same_from : {A : Type 0} (what : ℕ → Def Span → List A) (documents : List Doc) (xs ys : List ParsedOf) (k : ℕ) → AreParsed documents xs → AreParsed documents ys →
      flat_map (λ r. in_document what r.0 r.1) (enumerate_from k xs) ≡ flat_map (λ r. in_document what r.0 r.1) (enumerate_from k ys)
  same_from what [] [] [] k none none = refl
  same_from what [] [] (b ∷ ys) k p q = elim q [ ]
  same_from what [] (a ∷ xs) ys k p q = elim p [ ]
  same_from what (document ∷ documents) [] ys k p q = elim p [ ]
  same_from what (document ∷ documents) (a ∷ xs) [] k p q = elim q [ ]
  same_from what (document ∷ documents) (a ∷ xs) (b ∷ ys) k (more p ps) (more q qs) =
      ap (λ ds. flat_map (what k) ds ++ flat_map (λ r. in_document what r.0 r.1) (enumerate_from (k + 1) xs)) (same_definitions document.text a b p q)
      ∙ ap (λ rest. in_document what k b ++ rest) (same_from what documents xs ys (k + 1) ps qs)

  -- what the definitions of documents are is the same by all readings
  pub same_in_documents : {A : Type 0} (what : ℕ → Def Span → List A) (documents : List Doc) (xs ys : List ParsedOf) → AreParsed documents xs → AreParsed documents ys → in_documents what xs ≡ in_documents what ys
  same_in_documents what documents xs ys p q = same_from what documents xs ys 0 p q

  -- so documents have the same trees, however they are read
  pub same_trees : (documents : List Doc) (xs ys : List ParsedOf) → AreParsed documents xs → AreParsed documents ys → map definitions_read xs ≡ map definitions_read ys
  same_trees [] [] [] p q = refl
  same_trees [] [] (b ∷ ys) p q = elim q [ ]
  same_trees [] (a ∷ xs) ys p q = elim p [ ]
  same_trees (document ∷ documents) [] ys p q = elim p [ ]
  same_trees (document ∷ documents) (a ∷ xs) [] p q = elim q [ ]
  same_trees (document ∷ documents) (a ∷ xs) (b ∷ ys) (more p ps) (more q qs) =
      ap (λ (t : List (Def Span)). t ∷ map definitions_read xs) (same_definitions document.text a b p q)
      ∙ ap (λ (ts : List (List (Def Span))). definitions_read b ∷ ts) (same_trees documents xs ys ps qs)

-- no two faults of a text, and none of both kinds
abbrev pub OneSyntax : Type 0
OneSyntax = (text : List ℕ) (a b : ℕ) → IsSyntaxFault text a → IsSyntaxFault text b → a ≡ b

abbrev pub OneLimit : Type 0
OneLimit = (text : List ℕ) (a b : ℕ) → IsLimitFault text a → IsLimitFault text b → a ≡ b

abbrev pub NotBoth : Type 0
NotBoth = (text : List ℕ) (a b : ℕ) → IsSyntaxFault text a → IsLimitFault text b → ⊥

module _ (one_tree : OneTree) (one_syntax : OneSyntax) (one_limit : OneLimit) (not_both : NotBoth) where
  same_reading : (text : List ℕ) (a b : ParsedOf) → IsParsed text a → IsParsed text b → a ≡ b
  same_reading text (reading.tree d) (reading.tree e) p q = ap reading.tree (one_tree text d e p q)
  same_reading text (reading.tree d) (reading.syntax m) p q = absurd (q.0 d p)
  same_reading text (reading.tree d) (reading.limit m) p q = absurd (q.0 d p)
  same_reading text (reading.syntax n) (reading.tree e) p q = absurd (p.0 e q)
  same_reading text (reading.syntax n) (reading.syntax m) p q = ap reading.syntax (one_syntax text n m p.1 q.1)
  same_reading text (reading.syntax n) (reading.limit m) p q = absurd (not_both text n m p.1 q.1)
  same_reading text (reading.limit n) (reading.tree e) p q = absurd (p.0 e q)
  same_reading text (reading.limit n) (reading.syntax m) p q = absurd (not_both text m n q.1 p.1)
  same_reading text (reading.limit n) (reading.limit m) p q = ap reading.limit (one_limit text n m p.1 q.1)

  -- so documents are read in one way
  pub one_reading : (documents : List Doc) (xs ys : List ParsedOf) → AreParsed documents xs → AreParsed documents ys → xs ≡ ys
  one_reading [] [] [] p q = refl
  one_reading [] [] (b ∷ ys) p q = elim q [ ]
  one_reading [] (a ∷ xs) ys p q = elim p [ ]
  one_reading (document ∷ documents) [] ys p q = elim p [ ]
  one_reading (document ∷ documents) (a ∷ xs) [] p q = elim q [ ]
  one_reading (document ∷ documents) (a ∷ xs) (b ∷ ys) (more p ps) (more q qs) =
      ap (λ x. x ∷ xs) (same_reading document.text a b p q) ∙ ap (λ rest. b ∷ rest) (one_reading documents xs ys ps qs)
