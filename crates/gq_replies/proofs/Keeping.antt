-- What is found by what is known of a project is told of the documents that are kept.
use Rattle.std.proofs.Common.{◌≡◌, ◌⊎◌, inl, inr, List, Result, Ok, Err, IfOk, IfErr, subst, sym, ◌∙◌}
use Rattle.std.proofs.lemmas.Result.{IfOk-weaker}
use mathlib.Core.Logic.{∥∥₁_elim, ∥∥₁_map, ∥∥₁_prop}
use Rattle.gq_project.specs.declared.document.Doc.{Doc}
use Rattle.gq_rename.specs.declared.refusal.Refusal.TheVariants.{NoMemory}
use Rattle.gq_rpc.specs.declared.messages.Id.{Id}
use Rattle.gq_rpc.specs.declared.messages.Outgoing.{Outgoing}
use Rattle.gq_replies.specs.Renames.{refused}

pub by_known : (Tells : List Doc → Type 0) (K : Type 0) (project documents : List Doc) → project ≡ documents → ∥ K ∥₁ → (K → Tells project) → ∥ Tells documents ∥₁
by_known Tells K project documents same known tells = ∥∥₁_map known (λ k. subst Tells same (tells k))

-- by an index too
pub by_index : (Tells Indexed : List Doc → Type 0) (K : Type 0) (project there documents : List Doc) → project ≡ there → there ≡ documents → ∥ K ∥₁ → ∥ Indexed there ∥₁ → (K → Indexed project → Tells project) → ∥ Tells documents ∥₁
by_index Tells Indexed K project there documents same stays known indexed tells =
    ∥∥₁_elim known ∥∥₁_prop (λ k. ∥∥₁_map indexed (λ i. subst Tells (same ∙ stays) (tells k (subst Indexed (sym same) i))))

-- where both are known
pub by_both : {K I T : Type 0} → ∥ K ∥₁ → ∥ I ∥₁ → (K → I → T) → ∥ T ∥₁
by_both known indexed tells = ∥∥₁_elim known ∥∥₁_prop (λ k. ∥∥₁_map indexed (λ i. tells k i))

-- the message that tells what is found, or the refusal where memory was refused
pub replied : {T E : Type 0} (Tells : Outgoing → Type 0) (id : Id) (make : T → Outgoing) (found : Result T E) (result : Result Outgoing E) → IfOk found (λ told. IfOk result (λ response. response ≡ make told))
    → IfErr found (λ why. IfOk result (λ response. response ≡ refused id NoMemory)) → IfOk found (λ told. ∥ Tells (make told) ∥₁) → IfOk result (λ response. ∥ (response ≡ refused id NoMemory) ⊎ Tells response ∥₁)
replied Tells id make (Ok told) result is none tells = IfOk-weaker result _ _ (λ response e. ∥∥₁_map tells (λ t. inr (subst Tells (sym e) t))) is
replied Tells id make (Err why) result is none tells = IfOk-weaker result _ _ (λ response e. ∣ inl e ∣₁) none
