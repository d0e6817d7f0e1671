-- The answer to a rename, from what is known of its target, its new name and its edit.
use Rattle.std.proofs.Common.{◌≡◌, ℕ, ◌<◌, List, Some, None, Result, Ok, Err, refl, sym, subst, ◌∙◌, arith, inl, inr, ◌⊎◌}
use Rattle.std.specs.Prelude.{find, IfOk}
use Rattle.std.proofs.lemmas.Grind.{not_there}
use Rattle.gq_project.specs.declared.document.Doc.{Doc}
use Rattle.gq_edit.specs.declared.edit.DocumentEdit.{DocumentEdit}
use Rattle.gq_edit.specs.Edits.{after_edit, is_too_large}
use Rattle.gq_tree.specs.Readings.{ParsedOf}
use Rattle.gq_parse.specs.Parsed.{AreParsed}
use Rattle.gq_index.specs.Occurrences.{executables}
use Rattle.gq_renamed.specs.Renamings.{Renaming}
use Rattle.gq_rules.specs.Validity.{IsValid}
use Rattle.gq_mentions.specs.declared.target.Target.{Target}
use Rattle.gq_rename.specs.declared.refusal.Refusal.{Refusal}
use Rattle.gq_rename.specs.declared.refusal.Refusal.TheVariants.{ProjectInvalid, NothingHere, BadName, SameName, NameTaken, DirectiveInWay, NoPossibleType, NotSiblings, NotRedundant, TooLarge, SelfCheck, NoMemory}
use Rattle.gq_rename.specs.Refusals.{number_of}
use Rattle.gq_rename.specs.Asks.{RenameAsk, trees_of, target_of, MayBeCalled, IsTaken, Changes}
use Rattle.gq_rename.specs.Rename.{Renames, cut, AtTarget, IsTooLarge, ReadsAsRenamed, PassesCheck, Refuses, IsRenameAnswer, KeepsTrees}
use Rattle.gq_rename.specs.Sound.{IsSound, edits_by}
use Rattle.gq_rename.specs.Helping.NameRefusals.{IsNameRefusal}
use Rattle.gq_rename.specs.Checked.{IsMeasured}
use Rattle.gq_rename.proofs.Edited.{too_large}
use Rattle.gq_rename.proofs.Groups.{one_rule}

abbrev pub ask_of : List ℕ → ℕ → List ℕ → RenameAsk
ask_of key offset new = record { key = key; offset = offset; new = new }

module _ (documents : List Doc) (rs : List ParsedOf) (key : List ℕ) (offset : ℕ) (new : List ℕ) (are : AreParsed documents rs) (valid : ∥ IsValid documents ∥₁) where
  abbrev Refused : Refusal → Type 0
  Refused = Refuses documents rs (ask_of key offset new)

  -- nothing is at the offset
  nothing_earlier : (why : Refusal) → number_of why < 2 → Refused why → ⊥
  nothing_earlier ProjectInvalid less h = not_there valid h
  nothing_earlier NothingHere less h = absurd (omega (arith, less))
  nothing_earlier BadName less h = absurd (omega (arith, less))
  nothing_earlier SameName less h = absurd (omega (arith, less))
  nothing_earlier NameTaken less h = absurd (omega (arith, less))
  nothing_earlier DirectiveInWay less h = absurd (omega (arith, less))
  nothing_earlier NoPossibleType less h = absurd (omega (arith, less))
  nothing_earlier NotSiblings less h = absurd (omega (arith, less))
  nothing_earlier NotRedundant less h = absurd (omega (arith, less))
  nothing_earlier TooLarge less h = absurd (omega (arith, less))
  nothing_earlier SelfCheck less h = absurd (omega (arith, less))
  nothing_earlier NoMemory less h = absurd (omega (arith, less))

  pub nothing_here : target_of documents rs key offset ≡ None → IsRenameAnswer documents key offset new (Err NothingHere)
  nothing_here none = record { readings = rs; are_readings = are; offer = (none, nothing_earlier) }

  module _ (t : Target) (here : target_of documents rs key offset ≡ Some t) where
    at : (P : Target → Type 0) → AtTarget documents rs (ask_of key offset new) P → P t
    at P a = let same : a.target ≡ t = (let e = sym a.here ∙ here in cc) in subst P same a.holds

    -- what is refuted by what is known so far
    none_before : (n : ℕ) → (3 < n → MayBeCalled t.kind new) → (4 < n → t.name.text ≡ new → ⊥) → (5 < n → IsTaken (executables rs) t.kind t.name.text t.definition new → ⊥) →
        (10 < n → (r : Renames documents rs (ask_of key offset new)) → IsTooLarge documents (cut r) → ⊥) → (11 < n → (r : Renames documents rs (ask_of key offset new)) → (PassesCheck r → ⊥) → ⊥) →
        (why : Refusal) → number_of why < n → Refused why → ⊥
    none_before n may other free fits checks ProjectInvalid less h = not_there valid h
    none_before n may other free fits checks NothingHere less h = (let e : Some t ≡ None = sym here ∙ h in cc)
    none_before n may other free fits checks BadName less h = at (λ u. MayBeCalled u.kind new → ⊥) h (may less)
    none_before n may other free fits checks SameName less h = other less (at (λ u. u.name.text ≡ new) h)
    none_before n may other free fits checks NameTaken less h = free less (at (λ u. IsTaken (executables rs) u.kind u.name.text u.definition new) h)
    none_before n may other free fits checks DirectiveInWay less h = h
    none_before n may other free fits checks NoPossibleType less h = h
    none_before n may other free fits checks NotSiblings less h = h
    none_before n may other free fits checks NotRedundant less h = h
    none_before n may other free fits checks TooLarge less h = fits less h.0 h.1
    none_before n may other free fits checks SelfCheck less h = checks less h.0 h.1
    none_before n may other free fits checks NoMemory less h = h

    -- a new name that is refused
    pub name_refused : (why : Refusal) → IsNameRefusal (executables rs) t.kind t.name.text t.definition new (Some why) → IsRenameAnswer documents key offset new (Err why)
    name_refused ProjectInvalid h = absurd h
    name_refused NothingHere h = absurd h
    name_refused BadName h = record {
      readings = rs;
      are_readings = are;
      offer = (
        record { target = t; here = here; holds = h },
        none_before 3 (λ l. absurd (omega (arith, l))) (λ l. absurd (omega (arith, l))) (λ l. absurd (omega (arith, l))) (λ l. absurd (omega (arith, l))) (λ l. absurd (omega (arith, l))),
      );
    }
    name_refused SameName h = record {
      readings = rs;
      are_readings = are;
      offer = (
        record { target = t; here = here; holds = h.1 },
        none_before 4 (λ l. h.0) (λ l. absurd (omega (arith, l))) (λ l. absurd (omega (arith, l))) (λ l. absurd (omega (arith, l))) (λ l. absurd (omega (arith, l))),
      );
    }
    name_refused NameTaken h = record {
      readings = rs;
      are_readings = are;
      offer = (
        record { target = t; here = here; holds = h.2 },
        none_before 5 (λ l. h.0) (λ l. h.1) (λ l. absurd (omega (arith, l))) (λ l. absurd (omega (arith, l))) (λ l. absurd (omega (arith, l))),
      );
    }
    name_refused DirectiveInWay h = absurd h
    name_refused NoPossibleType h = absurd h
    name_refused NotSiblings h = absurd h
    name_refused NotRedundant h = absurd h
    name_refused TooLarge h = absurd h
    name_refused SelfCheck h = absurd h
    name_refused NoMemory h = absurd h

    module _ (rule : ℕ → Renaming) (changes : Changes (executables rs) t.name.text t.definition t.kind rule) (sound : IsSound documents rs rule new) where
      abbrev Edits : List DocumentEdit
      Edits = edits_by rule new documents rs

      own : Renames documents rs (ask_of key offset new)
      own = record { target = t; here = here; rule = rule; changes = changes }

      -- there is no other rename
      same_rule : (r : Renames documents rs (ask_of key offset new)) → rule ≡ r.rule
      same_rule r =
          let same : r.target ≡ t = (let e = sym r.here ∙ here in cc) in
          let C : Target → Type 0 = λ u. Changes (executables rs) u.name.text u.definition u.kind r.rule in
          one_rule changes (subst C same r.changes)

      of_each : (P : (ℕ → Renaming) → Type 0) → P rule → (r : Renames documents rs (ask_of key offset new)) → P r.rule
      of_each P h r = subst P (same_rule r) h

      fits_each : find (is_too_large documents) Edits ≡ None → (r : Renames documents rs (ask_of key offset new)) → IsTooLarge documents (cut r) → ⊥
      fits_each none r = of_each (λ f. IsTooLarge documents (edits_by f new documents rs) → ⊥) (sound.limits none) r

      checks_each : ∥ IsValid (after_edit Edits documents) ∥₁ → (r : Renames documents rs (ask_of key offset new)) → (PassesCheck r → ⊥) → ⊥
      checks_each after r =
          of_each (λ f. (ReadsAsRenamed documents (trees_of rs) f new (edits_by f new documents rs) × IsValid (after_edit (edits_by f new documents rs) documents) → ⊥) → ⊥)
          (λ no. not_there after (λ v. no (sound.reads, v))) r

      below : (why : Refusal) → number_of why < 13
      below ProjectInvalid = omega arith
      below NothingHere = omega arith
      below BadName = omega arith
      below SameName = omega arith
      below NameTaken = omega arith
      below DirectiveInWay = omega arith
      below NoPossibleType = omega arith
      below NotSiblings = omega arith
      below NotRedundant = omega arith
      below TooLarge = omega arith
      below SelfCheck = omega arith
      below NoMemory = omega arith

      -- an edit that was measured
      pub answered : IsNameRefusal (executables rs) t.kind t.name.text t.definition new None → (edits : List DocumentEdit) → edits ≡ Edits → (result : Result (List DocumentEdit) Refusal) → IsMeasured documents edits result →
          (result ≡ Err NoMemory) ⊎ IsRenameAnswer documents key offset new result
      unfolding own
      answered name edits is (Ok made) h =
          let large : find (is_too_large documents) Edits ≡ None = subst (λ (es : List DocumentEdit). find (is_too_large documents) es ≡ None) is h.1 in
          let after : ∥ IsValid (after_edit Edits documents) ∥₁ = subst (λ (es : List DocumentEdit). ∥ IsValid (after_edit es documents) ∥₁) is h.2 in
          inr (record {
            readings = rs;
            are_readings = are;
            offer = ((λ why. none_before 13 (λ l. name.0) (λ l. name.1) (λ l. name.2) (λ l. fits_each large) (λ l. checks_each after) why (below why)), (own, h.0 ∙ is));
          })
      answered name edits is (Err ProjectInvalid) h = absurd h
      answered name edits is (Err NothingHere) h = absurd h
      answered name edits is (Err BadName) h = absurd h
      answered name edits is (Err SameName) h = absurd h
      answered name edits is (Err NameTaken) h = absurd h
      answered name edits is (Err DirectiveInWay) h = absurd h
      answered name edits is (Err NoPossibleType) h = absurd h
      answered name edits is (Err NotSiblings) h = absurd h
      answered name edits is (Err NotRedundant) h = absurd h
      answered name edits is (Err TooLarge) h =
          let large : find (is_too_large documents) Edits ≡ Some h.0 = subst (λ (es : List DocumentEdit). find (is_too_large documents) es ≡ Some h.0) is h.1 in
          inr (record {
            readings = rs;
            are_readings = are;
            offer = ((own, too_large documents Edits h.0 large), none_before 10 (λ l. name.0) (λ l. name.1) (λ l. name.2) (λ l. absurd (omega (arith, l))) (λ l. absurd (omega (arith, l))));
          })
      answered name edits is (Err SelfCheck) h = absurd h
      answered name edits is (Err NoMemory) h = inl refl

      -- what an edit keeps
      pub keeps : (edits : List DocumentEdit) → edits ≡ Edits → (result : Result (List DocumentEdit) Refusal) → IsMeasured documents edits result → IfOk result (KeepsTrees documents key offset new)
      unfolding own
      keeps edits is (Ok made) h =
          let R : List DocumentEdit → Type 0 = λ es. ReadsAsRenamed documents (trees_of rs) rule new es in
          record { readings = rs; are_readings = are; renames = own; reads = subst R (sym (h.0 ∙ is)) sound.reads }
      keeps edits is (Err why) h = tt

pub valid_after : (documents : List Doc) (edits : List DocumentEdit) (result : Result (List DocumentEdit) Refusal) → IsMeasured documents edits result → IfOk result (λ made. ∥ IsValid (after_edit made documents) ∥₁)
valid_after documents edits (Ok made) h = subst (λ (es : List DocumentEdit). ∥ IsValid (after_edit es documents) ∥₁) (sym h.0) h.2
valid_after documents edits (Err why) h = tt
