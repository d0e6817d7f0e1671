-- The name that a rename would change stands in the text of its document.
use Rattle.std.proofs.Common.{◌≡◌, ℕ, Bool, true, false, List, ◌∷◌, Option, Some, None, find, refl, sym, ap, subst, ◌∙◌}
use Rattle.std.specs.Prelude.{option_and_then, if◌then◌else◌}
use Rattle.std.specs.List.{AllByRecursion}
use Rattle.std.specs.Option.{option_map}
use Rattle.gq_tree.specs.Readings as reading
use Rattle.gq_tree.specs.Readings.{ParsedOf, definitions_read}
use Rattle.gq_project.specs.declared.document.Doc.{Doc}
use Rattle.gq_project.specs.Documents.{has_key}
use Rattle.gq_parse.specs.Parsed.{IsParsed, AreParsed}
use Rattle.gq_parse.specs.Parsed as readings
use Rattle.std.specs.Str.{IsUtf8}
use Rattle.gq_renamed.specs.Projects.{number_behind}
use Rattle.gq_mentions.specs.declared.target.Target.{Target}
use Rattle.gq_mentions.specs.declared.target.TargetKind.{TargetKind}
use Rattle.gq_mentions.specs.Mentions.{MentionOf}
use Rattle.gq_mentions.specs.Meant.{meant}
use Rattle.gq_mentions.specs.Renameables.{target_kind, renameables}
use Rattle.gq_mentions.specs.Targets.{token_of, as_target, target}
use Rattle.gq_rename.specs.Asks.{trees_of, renameables_of, target_of}
use Rattle.gq_rename.specs.Sound.{AreUtf8}
use Rattle.gq_rename.specs.Standing.{CanBeCut, StandsUnder, PreparedNamesStandInTexts}
use Rattle.gq_rename.proofs.Below.{meant_in}
use Rattle.gq_rename.proofs.Standing.{renameables_stand}

-- the token of a target is that of a name
token_named : (m : MentionOf) (t : Target) → as_target m ≡ Some t → m.name.place ≡ t.name.span
token_named m t e = by (target_kind m.kind) e
  where
    by : (o : Option TargetKind) → option_map (λ (kind : TargetKind). let made : Target = record { kind = kind; span = m.place; name = token_of m.name; definition = m.definition } in made) o ≡ Some t → m.name.place ≡ t.name.span
    by None h = absurd (cc)
    by (Some kind) h =
        let made : Target = record { kind = kind; span = m.place; name = token_of m.name; definition = m.definition } in
        let same : made ≡ t = cc in
        ap (λ (x : Target). x.name.span) same

target_stands : (text : List ℕ) (offset : ℕ) (ms : List MentionOf) (t : Target) → AllByRecursion (λ m. CanBeCut text m.name.place) ms → target offset ms ≡ Some t → CanBeCut text t.name.span
target_stands text offset ms t h e = by (meant offset ms) refl e
  where
    by : (o : Option MentionOf) → meant offset ms ≡ o → option_and_then as_target o ≡ Some t → CanBeCut text t.name.span
    by None f g = absurd (cc)
    by (Some m) f g = subst (CanBeCut text) (token_named m t g) (meant_in (λ (n : MentionOf). CanBeCut text n.name.place) offset ms m h f)

-- in one document
stands_in_text : (text : List ℕ) (offset k : ℕ) (r : ParsedOf) (t : Target) → IsUtf8 text → IsParsed text r → target offset (renameables k (definitions_read r)) ≡ Some t → CanBeCut text t.name.span
stands_in_text text offset k (reading.tree d) t utf8 p e = target_stands text offset (renameables k d) t (renameables_stand text k d utf8 p) e
stands_in_text text offset k (reading.syntax place) t utf8 p e = absurd (cc)
stands_in_text text offset k (reading.limit place) t utf8 p e = absurd (cc)

-- in the one of the key
stands_under : (key : List ℕ) (offset k : ℕ) {documents : List Doc} {rs : List ParsedOf} (t : Target) → AreParsed documents rs → AreUtf8 documents → target offset (renameables_of key k documents (trees_of rs)) ≡ Some t → StandsUnder documents key t.name.span
stands_under key offset k t readings.none utf8 e = absurd (cc)
stands_under key offset k t (readings.more {document = first} {documents = documents} {one = r} {readings = rs} p ps) utf8 e =
    by (has_key key first) refl e (stands_under key offset (number_behind (definitions_read r) k) t ps utf8.1)
  where
    by : (b : Bool) → has_key key first ≡ b → target offset (if b then renameables k (definitions_read r) else renameables_of key (number_behind (definitions_read r) k) documents (trees_of rs)) ≡ Some t → (target offset (renameables_of key (number_behind (definitions_read r) k) documents (trees_of rs)) ≡ Some t → StandsUnder documents key t.name.span) → StandsUnder (first ∷ documents) key t.name.span
    by true is here later = record {
      document = first;
      there = ap (λ (b : Bool). if b then Some first else find (has_key key) documents) is;
      can_be_cut = stands_in_text first.text offset k r t utf8.0 p here;
    }
    by false is here later =
        let w = later here in
        record { document = w.document; there = ap (λ (b : Bool). if b then Some first else find (has_key key) documents) is ∙ w.there; can_be_cut = w.can_be_cut }

-- what is prepared is the token of a target
pub prepared_names_stand : PreparedNamesStandInTexts
prepared_names_stand documents key offset span utf8 a = by (target_of documents a.readings key offset) refl a.is_token
  where
    by : (o : Option Target) → target_of documents a.readings key offset ≡ o → Some span ≡ option_map (λ (t : Target). t.name.span) o → StandsUnder documents key span
    by None e is = absurd (cc)
    by (Some t) e is =
        let same : span ≡ t.name.span = cc in
        subst (StandsUnder documents key) (sym same) (stands_under key offset 0 t a.are_readings utf8 e)
