-- What stands at the front of a text stays when more bytes come.
use Rattle.std.proofs.Common.{◌≡◌, ℕ, ◌+◌, ◌-◌, ◌<◌, ◌≤◌, List, [], ◌∷◌, ◌++◌, length, take, drop, Bool, true, false, cond, Option, Some, None, refl, ap, sym, ◌∙◌, subst, arith, length-append, length-drop}
use Rattle.std.specs.Prelude.{unwrap_or, option_map, bytes_eq, nat_lt, nat_le, slice_range}
use Rattle.std.proofs.lemmas.List.{drop-append-le, take-append-le}
use Rattle.std.proofs.lemmas.Bool.Decides.{nat_tests}
use Rattle.gq_rpc.specs.declared.header.FrameFault.TheVariants.{BadHeader, NoLength, TooLong}
use Rattle.gq_rpc.specs.Lines.{ended_lines, onto, is_line_feed, head_of, known_after, field_of}
use Rattle.gq_rpc.specs.Frames.{scan_of, with_head, with_length, max_header, max_body, Cuts}
use Rattle.gq_rpc.specs.declared.header.Head.{Head}
use Rattle.gq_rpc.specs.declared.header.Head.TheVariants as head
use Rattle.gq_rpc.specs.declared.header.Scan.TheVariants.{Whole, Partial, Bad}
use Rattle.gq_rpc.proofs.Streams.{Cuts-trans}

-- the lines that had ended are the first of those that have ended then
pub record Begins (lines all : List (List ℕ)) : Type 0 where
  pub more : List (List ℕ)
  pub whole : all ≡ lines ++ more

onto_step : (t : Bool) (b : ℕ) (lines all : List (List ℕ)) → Begins lines all → Begins (cond t ([] ∷ lines) (onto b lines)) (cond t ([] ∷ all) (onto b all))
onto_step true b lines all h = record { more = h.more; whole = ap (λ l. [] ∷ l) h.whole }
onto_step false b [] all h = record { more = onto b all; whole = refl }
onto_step false b (line ∷ lines) all h = record { more = h.more; whole = ap (onto b) h.whole }

pub ended_lines-append : (a b : List ℕ) → Begins (ended_lines a) (ended_lines (a ++ b))
ended_lines-append [] b = record { more = ended_lines b; whole = refl }
ended_lines-append (x ∷ a) b = onto_step (is_line_feed x) x (ended_lines a) (ended_lines (a ++ b)) (ended_lines-append a b)

-- the head of these lines, after this much
abbrev pub Known : Option (Option ℕ) → (Option ℕ → Head) → Head
Known found next = unwrap_or (option_map next found) head.Malformed

done_step : (t : Bool) (size n : ℕ) (found k : Option ℕ) (known : Option (Option ℕ)) (next later : Option ℕ → Head)
    → ((f : Option ℕ) → next f ≡ head.Done n k → later f ≡ head.Done n k)
    → cond t (head.Done (size + 2) found) (Known known next) ≡ head.Done n k → cond t (head.Done (size + 2) found) (Known known later) ≡ head.Done n k
done_step true size n found k known next later h e = e
done_step false size n found k None next later h e = e
done_step false size n found k (Some f) next later h e = h f e

-- a header part that has ended stays as it was
pub head_of-append : (lines more : List (List ℕ)) (size n : ℕ) (found k : Option ℕ) → head_of size found lines ≡ head.Done n k → head_of size found (lines ++ more) ≡ head.Done n k
head_of-append [] more size n found k e = absurd (cc)
head_of-append (line ∷ lines) more size n found k e =
    done_step (bytes_eq line (13 ∷ [])) size n found k (known_after (field_of line) found) _ _
    (λ f. head_of-append lines more (size + (length line + 1)) n f k) e

fit_step : (t u : Bool) (size end s e : ℕ) → (t ≡ true → u ≡ true) → cond t (Whole size end) Partial ≡ Whole s e → cond u (Whole size end) Partial ≡ Whole s e
fit_step true true size end s e h k = k
fit_step true false size end s e h k = let bad : false ≡ true = h refl in absurd (cc)
fit_step false u size end s e h k = absurd (cc)

nat_le-more : (a b more : ℕ) → nat_le a b ≡ true → nat_le a (b + more) ≡ true
nat_le-more a b more h = grind (arith, nat_tests)

length_step : (t : Bool) (size n len more s e : ℕ) → cond t (Bad TooLong) (cond (nat_le (size + n) len) (Whole size (size + n)) Partial) ≡ Whole s e
    → cond t (Bad TooLong) (cond (nat_le (size + n) (len + more)) (Whole size (size + n)) Partial) ≡ Whole s e
length_step true size n len more s e h = h
length_step false size n len more s e h = fit_step (nat_le (size + n) len) (nat_le (size + n) (len + more)) size (size + n) s e (nat_le-more (size + n) len more) h

with_length-more : (size : ℕ) (k : Option ℕ) (len more s e : ℕ) → with_length size k len ≡ Whole s e → with_length size k (len + more) ≡ Whole s e
with_length-more size None len more s e h = absurd (cc)
with_length-more size (Some n) len more s e h = length_step (nat_lt max_body n) size n len more s e h

size_step : (t : Bool) (size : ℕ) (k : Option ℕ) (len more s e : ℕ) → cond t (Bad BadHeader) (with_length size k len) ≡ Whole s e → cond t (Bad BadHeader) (with_length size k (len + more)) ≡ Whole s e
size_step true size k len more s e h = h
size_step false size k len more s e h = with_length-more size k len more s e h

no_whole : (t : Bool) (s e : ℕ) → cond t (Bad BadHeader) Partial ≡ Whole s e → ⊥
no_whole true s e h = cc
no_whole false s e h = cc

-- a whole frame at the front of a text has a header part that has ended, and stays when more bytes come
head_step : (h : Head) (len more s e : ℕ) → with_head h len ≡ Whole s e → (n : ℕ) × (k : Option ℕ) × (h ≡ head.Done n k) × (with_head (head.Done n k) (len + more) ≡ Whole s e)
head_step head.Open len more s e h = absurd (no_whole (nat_lt max_header len) s e h)
head_step (head.Done n k) len more s e h = (n, k, refl, size_step (nat_lt max_header n) n k len more s e h)
head_step head.Malformed len more s e h = absurd (cc)

pub scan_of-append : (a b : List ℕ) (s e : ℕ) → scan_of a ≡ Whole s e → scan_of (a ++ b) ≡ Whole s e
scan_of-append a b s e h =
    let lines = ended_lines-append a b in
    let step = head_step (head_of 0 None (ended_lines a)) (length a) (length b) s e h in
    let same : head_of 0 None (ended_lines (a ++ b)) ≡ head.Done step.0 step.1 =
    ap (head_of 0 None) lines.whole ∙ head_of-append (ended_lines a) lines.more 0 step.0 None step.1 step.2 in
    ap (λ d. with_head d (length (a ++ b))) same ∙ ap (with_head (head.Done step.0 step.1)) (length-append a b) ∙ step.3

whole_step : (t u v : Bool) (size end s e len : ℕ) → (v ≡ true → end ≤ len) → cond t (Bad BadHeader) (cond u (Bad TooLong) (cond v (Whole size end) Partial)) ≡ Whole s e → e ≤ len
whole_step true u v size end s e len h k = absurd (cc)
whole_step false true v size end s e len h k = absurd (cc)
whole_step false false true size end s e len h k = let g = h refl in let same : end ≡ e = cc in omega arith
whole_step false false false size end s e len h k = absurd (cc)

none_step : (t : Bool) (s e : ℕ) → cond t (Bad BadHeader) (Bad NoLength) ≡ Whole s e → ⊥
none_step true s e h = cc
none_step false s e h = cc

nat_le-is : (a b : ℕ) → nat_le a b ≡ true → a ≤ b
nat_le-is a b h = grind (arith, nat_tests)

nat_le-not : (a b : ℕ) → nat_le a b ≡ false → b < a
nat_le-not a b h = grind (arith, nat_tests)

head_within : (h : Head) (len s e : ℕ) → with_head h len ≡ Whole s e → e ≤ len
head_within head.Open len s e h = absurd (no_whole (nat_lt max_header len) s e h)
head_within (head.Done n None) len s e h = absurd (none_step (nat_lt max_header n) s e h)
head_within (head.Done n (Some k)) len s e h = whole_step (nat_lt max_header n) (nat_lt max_body k) (nat_le (n + k) len) n (n + k) s e len (nat_le-is (n + k) len) h
head_within head.Malformed len s e h = absurd (cc)

-- a whole frame lies in the text
pub scan_of-within : (text : List ℕ) (s e : ℕ) → scan_of text ≡ Whole s e → e ≤ length text
scan_of-within text s e h = head_within (head_of 0 None (ended_lines text)) (length text) s e h

slice_at : (t : Bool) (a b : List ℕ) (s e : ℕ) → nat_le s (length a) ≡ t → e ≤ length a → take (e - s) (drop s (a ++ b)) ≡ take (e - s) (drop s a)
slice_at true a b s e t h =
    let start = nat_le-is s (length a) t in
    let room : e - s ≤ length (drop s a) = omega (arith, length-drop s a) in
    ap (take (e - s)) (drop-append-le s a b start) ∙ take-append-le (e - s) (drop s a) b room
slice_at false a b s e t h = let none : e - s ≡ 0 = omega (arith, nat_le-not s (length a) t) in ap (λ n. take n (drop s (a ++ b))) none ∙ sym (ap (λ n. take n (drop s a)) none)

slice_append : (a b : List ℕ) (s e : ℕ) → e ≤ length a → slice_range (a ++ b) s e ≡ slice_range a s e
slice_append a b s e h = slice_at (nat_le s (length a)) a b s e refl h

-- the frames of a text are the first of a longer one
pub Cuts-append : (text : List ℕ) (bodies : List (List ℕ)) (rest more : List ℕ) → Cuts text bodies rest → Cuts (text ++ more) bodies (rest ++ more)
Cuts-append text [] rest more h = ap (λ t. t ++ more) h
Cuts-append text (body ∷ bodies) rest more h =
    let within = scan_of-within text h.0 h.1 h.2 in (
      h.0,
      h.1,
      scan_of-append text more h.0 h.1 h.2,
      h.3 ∙ sym (slice_append text more h.0 h.1 within),
      subst (λ t. Cuts t bodies (rest ++ more)) (sym (drop-append-le h.1 text more within)) (Cuts-append (drop h.1 text) bodies rest more h.4),
    )

-- what was read, and then what a piece brought
pub Cuts-feed : (text : List ℕ) (bodies : List (List ℕ)) (held piece : List ℕ) (more : List (List ℕ)) (rest : List ℕ)
    → Cuts text bodies held → Cuts (held ++ piece) more rest → Cuts (text ++ piece) (bodies ++ more) rest
Cuts-feed text bodies held piece more rest h k = Cuts-trans (text ++ piece) bodies (held ++ piece) more rest (Cuts-append text bodies held piece h) k
