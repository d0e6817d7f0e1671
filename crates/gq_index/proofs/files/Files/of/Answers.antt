-- What is kept of one more document.
use Rattle.std.proofs.Common.{List, [], ◌∷◌, ◌++◌, ◌∙◌, ap, map, subst, sym}
use Rattle.std.specs.Map.Iter.{deref_pair}
use Rattle.std.proofs.lemmas.List.{map-append}
use Rattle.std.proofs.lemmas.Iterator.{YieldsList-from_slice, YieldsList-from_zip}
use Rattle.std.proofs.lemmas.Iterator.Consumers.{YieldsList-end}
use Rattle.gq_project.specs.declared.document.Doc.{Doc}
use Rattle.gq_index.specs.declared.files.File.{File}
use Rattle.gq_index.specs.declared.parts.Parts.{Parts}
use Rattle.gq_index.specs.Views.{parts_held}
use Rattle.gq_index.proofs.FileLemmas.{AreKept, SharedParts, kept_none, kept_more, kept_all}
use Rattle.gq_index.proofs.files.Files.of.Goals as goal

pub loop-document-init : goal.loop-document-init
loop-document-init c = subst (λ (files : List File). AreKept [] files) (sym c.in_ok-files.ensures.items) kept_none

pub loop-document-preserved : goal.loop-document-preserved
loop-document-preserved c =
    let document = c.in-Some.document in
    let one = c.in-Some.one in
    let file = c.in_ok-of.field-0 in
    let before = c.loop-document.yielded in
    subst (λ (ps : List (Doc × SharedParts)). AreKept ps c.push.new.self.items) (sym {A = List (Doc × SharedParts)} (map-append deref_pair before ((document, one) ∷ [])))
    (subst (λ (files : List File). AreKept (map deref_pair before ++ (document.now, one.now) ∷ []) files) (sym {A = List File} c.in_ok-push.ensures.items)
    (kept_more (map deref_pair before) c.loop-document.files.items (document.now, one.now) file (c.in_ok-of.ensures.key ∙ c.as_str.ensures) (c.in_ok-of.ensures.parts ∙ ap (λ (p : Parts). parts_held p) c.in_ok-shared.ensures) c.loop-document.invariant))

pub returns : goal.returns
returns c readings are same =
    let documents : List Doc = c.args.documents.now in
    let parts : List SharedParts = c.args.parts.now in
    let files : List File = c.loop-document.files.items in
    let t = YieldsList-end (YieldsList-from_zip (YieldsList-from_slice documents (cc)) (YieldsList-from_slice parts (cc))) c.loop-document.yielded c.loop-document.document-iterator c.loop-document.yielded_by c.next.result c.next.new.self c.in-None.is c.next.ensures.steps in
    kept_all documents parts readings files (subst (λ (ps : List (Doc × SharedParts)). AreKept ps files) t.0 c.loop-document.invariant) are same
