-- Each move keeps the rule of the inbox.
use Rattle.std.proofs.Common.{◌≡◌, ◌≢◌, ℕ, zero, suc, true, true≢false, List, [], ◌∷◌, ◌++◌, length, set, sym, refl, ap, ◌∙◌, subst, ⊎_elim, append_assoc}
use mathlib.Core.List.{IsPrefix}
use mathlib.Core.Option.{some, some-ne-none}
use lib.ListN.{get_elem?}
use Rattle.crossbeam_channel.specs.Fifo.{Pushes, Pops, Forks, Merges, Learns}
use Rattle.atomic_table.proofs.Lists.{at_set, at_snoc}
use Rattle.gq_board.specs.declared.history.Room.{Ghosts}
use Rattle.gq_events.specs.declared.event.Event.{Event}
use Rattle.gq_workers.specs.declared.delivery.Delivery.{Delivery}
use Rattle.gq_workers.specs.declared.delivery.Delivery.TheVariants.{Read, Sent}
use Rattle.gq_workers.specs.declared.delivery.Post.{Post}
use Rattle.gq_workers.specs.Inbox.{post, nobody, posting, collecting, after_send, after_collect, read_in, reads_in, Fits, Delivers, MaySend}

append-nil : (xs : List Event) → xs ++ [] ≡ xs
append-nil [] = refl
append-nil (x ∷ xs) = ap (λ (ys : List Event). x ∷ ys) (append-nil xs)

at_end : (l : List Post) (a b : Post) (j : ℕ) → get_elem? l j ≢ some b → get_elem? (l ++ a ∷ []) j ≡ some b → j ≡ length l
at_end [] a b zero n e = refl
at_end [] a b (suc j) n e = absurd (some-ne-none b (sym e))
at_end (x ∷ xs) a b zero n e = absurd (n e)
at_end (x ∷ xs) a b (suc j) n e = ap suc (at_end xs a b j n e)

abbrev All : (ℕ → Post → Type 0) → List Post → Type 0
All F views = (pass : ℕ) (v : Post) → get_elem? views pass ≡ some v → F pass v

all_set : (F : ℕ → Post → Type 0) (views : List Post) (pass : ℕ) (w : Post) → F pass w → ((j : ℕ) (u : Post) → j ≢ pass → get_elem? views j ≡ some u → F j u)
    → All F (set views pass w)
all_set F views pass w mine others j u e = ⊎_elim (λ (x : (j ≡ pass) × (w ≡ u)). subst (λ (y : ℕ × Post). F y.0 y.1) (λ i. (sym x.0 i, x.1 i)) mine)
    (λ (x : (j ≢ pass) × (get_elem? views j ≡ some u)). others j u x.0 x.1) (at_set views pass j w u e)

-- nobody fits everywhere
idle : (reader desk : ℕ) (posted collected : List Event) (pass : ℕ) → Fits reader desk posted collected pass nobody
idle reader desk posted collected pass = ((λ p. absurd (true≢false (sym p))), λ p. absurd (true≢false (sym p)))

pub begins : (J : Type 0) (g : Ghosts J) → Delivers {J = J} {g = g} [] (post true true [] [] [] ∷ [])
begins J g = (
  0,
  0,
  [],
  [],
  refl,
  all_set (Fits 0 0 [] []) (post true true [] [] [] ∷ []) 0 (post true true [] [] []) ((λ _. (refl, refl)), λ _. (refl, refl))
      (λ j u other e. absurd (other (at_end [] (post true true [] [] []) u j (λ x. some-ne-none u (sym x)) e))),
)

module _ {J : Type 0} {g : Ghosts J} where
  reads-snoc : (items : List (Delivery J g)) (x : Delivery J g) → reads_in (items ++ x ∷ []) ≡ reads_in items ++ read_in x
  reads-snoc [] x = append-nil (read_in x)
  reads-snoc (y ∷ ys) x = ap (λ (es : List Event). read_in y ++ es) (reads-snoc ys x) ∙ sym (append_assoc (read_in y) (reads_in ys) (read_in x))

  -- what is read stands at the back
  reads-more : (collected : List Event) (items : List (Delivery J g)) (x : Delivery J g) (posted : List Event) → collected ++ reads_in items ≡ posted
      → collected ++ reads_in (items ++ x ∷ []) ≡ posted ++ read_in x
  reads-more collected items x posted is =
      ap (λ (es : List Event). collected ++ es) (reads-snoc items x) ∙ sym (append_assoc collected (reads_in items) (read_in x)) ∙ ap (λ (es : List Event). es ++ read_in x) is

  sent_one : (x : Delivery J g) (items : List (Delivery J g)) (views : List Post) (pass : ℕ) (v : Post) → MaySend v x → Delivers items views → get_elem? views pass ≡ some v
      → Delivers (items ++ x ∷ []) (set views pass (after_send v x))
  sent_one (Read e) items views pass v may h at =
      let mine = h.5 pass v at in let posted = h.2 ++ e ∷ [] in (
        h.0,
        h.1,
        posted,
        h.3,
        reads-more h.3 items (Read e) h.2 h.4,
        all_set (Fits h.0 h.1 posted h.3) views pass (after_send {J = J} {g = g} v (Read e)) ((λ _. ((mine.0 may).0, ap (λ (l : List Event). l ++ e ∷ []) (mine.0 may).1)), mine.1)
            (λ j u other e. ((λ p. absurd (other (((h.5 j u e).0 p).0 ∙ sym (mine.0 may).0))), (h.5 j u e).1)),
      )
  sent_one (Sent s) items views pass v may h at = (
    h.0,
    h.1,
    h.2,
    h.3,
    reads-more h.3 items (Sent s) h.2 h.4 ∙ append-nil h.2,
    all_set (Fits h.0 h.1 h.2 h.3) views pass (after_send {J = J} {g = g} v (Sent s)) (h.5 pass v at) (λ j u other e. h.5 j u e),
  )

  pub sends : (n pass : ℕ) (v : Post) (x : Delivery J g) → MaySend v x → Pushes (Delivers {J = J} {g = g}) n pass v x (λ w. w ≡ after_send v x)
  sends n pass v x may items views room h at = (after_send v x, sent_one x items views pass v may h at, refl)

  pub collects : (pass : ℕ) (v : Post) → v.collects ≡ true → Pops (Delivers {J = J} {g = g}) pass v (λ x w. w ≡ after_collect v x)
  collects pass v may x items views h at =
      let w = after_collect v x in let mine = h.5 pass v at in let collected = h.3 ++ read_in x in (
        w,
        (
          h.0,
          h.1,
          h.2,
          collected,
          append_assoc h.3 (read_in x) (reads_in items) ∙ h.4,
          all_set (Fits h.0 h.1 h.2 collected) views pass w (mine.0, λ _. ((mine.1 may).0, ap (λ (l : List Event). l ++ read_in x) (mine.1 may).1))
              (λ j u other e. ((h.5 j u e).0, λ p. absurd (other (((h.5 j u e).1 p).0 ∙ sym (mine.1 may).0)))),
        ),
        refl,
      )

  -- a pass for a worker
  pub hires : (pass : ℕ) (v : Post) → Forks (Delivers {J = J} {g = g}) pass v v nobody
  hires pass v items views h at = let vs : List Post = set views pass v in
      let old : All (Fits h.0 h.1 h.2 h.3) vs = all_set (Fits h.0 h.1 h.2 h.3) views pass v (h.5 pass v at) (λ j u other e. h.5 j u e) in (
        h.0,
        h.1,
        h.2,
        h.3,
        h.4,
        λ j u e. ⊎_elim (old j u) (λ (is : nobody ≡ u). subst (Fits h.0 h.1 h.2 h.3 j) is (idle h.0 h.1 h.2 h.3 j)) (at_snoc vs nobody u j e),
      )

  -- a pass for the reader
  pub parts : (pass : ℕ) (v : Post) → v.posts ≡ true → v.collects ≡ true → Forks (Delivers {J = J} {g = g}) pass v (collecting v.collected) (posting v.posted)
  parts pass v a b items views h at = let l : Post = collecting v.collected in let r : Post = posting v.posted in let mine = h.5 pass v at in let vs : List Post = set views pass l in
      let Old : ℕ → Post → Type 0 = λ j u. (u.posts ≢ true) × (u.collects ≡ true → (j ≡ h.1) × (u.collected ≡ h.3)) in
      let old : All Old vs = all_set Old views pass l ((λ p. true≢false (sym p)), λ _. mine.1 b) (λ j u other e. ((λ p. other (((h.5 j u e).0 p).0 ∙ sym (mine.0 a).0)), (h.5 j u e).1)) in (
        length vs,
        h.1,
        h.2,
        h.3,
        h.4,
        λ j u e. ⊎_elim (λ (x : get_elem? vs j ≡ some u). ((λ p. absurd ((old j u x).0 p)), (old j u x).1))
            (λ (is : r ≡ u). (
              (λ p. (at_end vs r u j (λ x. (old j u x).0 p) e, ap (λ (y : Post). y.posted) (sym is) ∙ (mine.0 a).1)),
              λ p. absurd (true≢false (sym (ap (λ (y : Post). y.collects) is ∙ p))),
            )) (at_snoc vs r u j e),
      )

  -- the desk's pass takes in the reader's
  pub meets : (pass : ℕ) (v : Post) (other : ℕ) (u : Post) → v.collects ≡ true → u.posts ≡ true
      → Merges (Delivers {J = J} {g = g}) pass v other u (post true true u.posted v.collected []) nobody
  meets pass v other u a b items views h at two at' = let both : Post = post true true u.posted v.collected [] in let mine = h.5 pass v at in let vs : List Post = set views pass both in
      let was : get_elem? views other ≡ some u =
      ⊎_elim (λ (x : (other ≡ pass) × (both ≡ u)). absurd (two x.0)) (λ (x : (other ≢ pass) × (get_elem? views other ≡ some u)). x.1) (at_set views pass other both u at') in
      let theirs = (h.5 other u was).0 b in
      let Now : ℕ → Post → Type 0 = λ j y. j ≢ other → Fits pass h.1 h.2 h.3 j y in
      let now : All Now vs = all_set Now views pass both (λ _. ((λ _. (refl, theirs.1)), λ _. mine.1 a))
      (λ j y _ e apart. ((λ p. absurd (apart (((h.5 j y e).0 p).0 ∙ sym theirs.0))), (h.5 j y e).1)) in
      (pass, h.1, h.2, h.3, h.4, all_set (Fits pass h.1 h.2 h.3) vs other nobody (idle pass h.1 h.2 h.3 other) (λ j y apart e. now j y e apart))

  pub left : (pass : ℕ) (v : Post) → v.posts ≡ true → v.collects ≡ true → Learns (Delivers {J = J} {g = g}) pass v (λ items. IsPrefix v.collected v.posted)
  left pass v a b items views h at = let mine = h.5 pass v at in
      (reads_in items, ap (λ (l : List Event). l ++ reads_in items) (mine.1 b).1 ∙ h.4 ∙ sym (mine.0 a).1)
