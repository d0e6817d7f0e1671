use Rattle.std.proofs.Common.{◌≡◌, ◌≤◌, ◌^◌, [], drop, length, map, All}
use Rattle.gq_check.specs.Files.{documents_of_each, first_fault}
use Rattle.gq_check.proofs.files.put_each.Given as goal

abbrev pub invariant-loop-file : goal.invariant-loop-file
invariant-loop-file l = record {
  accepted : first_fault (map (λ file. file.now) (drop l.file-index l.files)) ≡ first_fault (map (λ file. file.now) l.files);
  documents : documents_of_each l.project (map (λ file. file.now) (drop l.file-index l.files)) ≡ documents_of_each [] (map (λ file. file.now) l.files);
  texts : All (λ doc. length doc.text ≤ 2 ^ 22) l.project;
}
