-- A block that is tried: each look finds a frame free, and its stamp.
use Rattle.std.proofs.Common.{◌≡◌, ℕ, suc, zero, ◌+◌, ◌*◌, ◌/◌, ◌%◌, ◌<◌, ◌≤◌, ◌==◌, ◌&&◌, ◌++◌, true, List, [], ◌∷◌, length, Option, Some, None, IfSome, refl, sym, ap, ◌∙◌, subst, inl, inr, arith, slice_index_or, max}
use Rattle.std.proofs.Math.Nat.{add-mul-mod_self_left, le-div_iff_mul-le, mul-mod_left, zero-mod}
use Rattle.std.proofs.lemmas.Nat.{mul-mod_first}
use Rattle.xp_words.specs.Machine.{Machine, IsMachine}
use Rattle.xp_words.specs.Places.{sizes_of}
use Rattle.xp_words.specs.RefWords.{ref_read, IsRef}
use Rattle.xp_words.specs.declared.place.Place.TheVariants.{Map, Refs}
use Rattle.xp_words.specs.declared.refs.RefWord.TheVariants.{Free}
use Rattle.xp_board.specs.Acts.{left_by}
use Rattle.xp_board.specs.Readings.{is_free}
use Rattle.xp_board.specs.Steps.{last_since}
use Rattle.xp_board.specs.declared.step.Act.TheVariants.{Load}
use Rattle.xp_board.specs.declared.step.StepKind.TheVariants as kinds
use Rattle.xp_board.specs.Told.{Post, PortValue}
use Rattle.xp_board.proofs.Sums.{when_eq}
use Rattle.xp_board.proofs.RefForms.{free_number}
use Rattle.step_maker.specs.Holds.{MayWork, Same}
use Rattle.step_maker.specs.Moves.{Came, Moves}
use Rattle.step_maker.proofs.Coming.{came_post, met_after, met_before, moment_of, moves_came, moves_met}
use Rattle.step_maker.proofs.Noting.{moves_since}
use Rattle.step_maker.specs.Asked.{of_back}
use Rattle.step_maker.proofs.Piecing.{serves_came, serves_nothing, serves_step, serves_then}
use Rattle.flush_words.proofs.Lasting.{last_left}
use Rattle.flush_waits.specs.Waiting.{HadFree}
use Rattle.flush_waits.proofs.Growing.{came_grows}
use Rattle.flush_waits.proofs.Waits.{below_or}
use Rattle.frame_claims.specs.declared.choosing.Chosen.{Chosen}
use Rattle.frame_claims.specs.Choosing.{FreeWord, IsFound, IsLatest, KeepsLast, Looks, SeenFree, StillFree, greatest}
use Rattle.frame_claims.proofs.Lasting.{met_within}

-- ---- words
pub word_free : (w stamp : ℕ) → FreeWord w stamp → is_free w ≡ true
unfolding is_free
word_free w stamp f = rw f.read refl

-- ---- looks
pub looks_nothing : (v : PortValue) → Looks v v
looks_nothing v = record { serves = λ r. serves_nothing v r; hand = refl }

pub looks_then : (v u w : PortValue) → Looks v u → Looks u w → Looks v w
looks_then v u w a b = record { serves = λ r. serves_then v u w r [] [] (a.serves r) (b.serves r); hand = b.hand ∙ a.hand }

pub looks_came : (v w : PortValue) → Looks v w → Came v w
looks_came v w a = serves_came v w (of_back 0) [] (a.serves (of_back 0))

pub look_refs_looks : (v u w : PortValue) (f x : ℕ) → Looks v u → Moves u w (Refs f) Load kinds.Look None x → Same u w → Looks v w
look_refs_looks v u w f x a m same = record { serves = λ r. serves_step v u w r [] (Refs f) Load kinds.Look None x (a.serves r) m tt; hand = same ∙ a.hand }

-- ---- what they found stays found
pub had_later : (u w : PortValue) (f stamp : ℕ) → Came u w → HadFree u.post.machine f stamp u.holdings → HadFree w.post.machine f stamp w.holdings
had_later u w f stamp came had = subst (λ (q : Post). HadFree q.machine f stamp w.holdings) (sym (came_post u w came)) (came_grows u w came _ had)

pub had_now : (u w : PortValue) (f x stamp : ℕ) → Moves u w (Refs f) Load kinds.Look None x → FreeWord x stamp → HadFree w.post.machine f stamp w.holdings
unfolding left_by
had_now u w f x stamp m free =
    subst (λ (q : Post). HadFree q.machine f stamp w.holdings) (sym (came_post u w (moves_came u w _ _ _ _ _ m)))
    (moves_since u w (Refs f) Load kinds.Look None x m 0 (λ y. is_free y && (y == stamp)) (omega arith) (rw (word_free x stamp free, when_eq x stamp free.is) refl))

-- ---- the list of stamps, one longer
pub at_old : (xs : List ℕ) (s j : ℕ) → j < length xs → slice_index_or (xs ++ s ∷ []) j 0 ≡ slice_index_or xs j 0
at_old [] s j low = absurd (omega (arith, low))
at_old (x ∷ xs) s zero low = refl
at_old (x ∷ xs) s (suc j) low = at_old xs s j (omega (arith, low))

pub at_new : (xs : List ℕ) (s : ℕ) → slice_index_or (xs ++ s ∷ []) (length xs) 0 ≡ s
at_new [] s = refl
at_new (x ∷ xs) s = at_new xs s

pub one_longer : (xs : List ℕ) (s : ℕ) → length (xs ++ s ∷ []) ≡ length xs + 1
one_longer [] s = refl
one_longer (x ∷ xs) s = let rest = one_longer xs s in omega (arith, rest)

-- P holds of each stamp and its number
pub each_more : (P : ℕ → ℕ → Type 0) (xs : List ℕ) (s : ℕ) → ((j : ℕ) → j < length xs → P j (slice_index_or xs j 0)) → P (length xs) s → (j : ℕ) → j < length (xs ++ s ∷ []) → P j (slice_index_or (xs ++ s ∷ []) j 0)
each_more P xs s all here j low =
    elim (below_or j (length xs) (let long = one_longer xs s in omega (arith, low, long))) [
      | inl under ↦ subst (P j) (sym (at_old xs s j under)) (all j under)
      | inr is ↦ subst (λ k. P k (slice_index_or (xs ++ s ∷ []) k 0)) (sym is) (subst (P (length xs)) (sym (at_new xs s)) here)
    ]

pub greatest_more : (xs : List ℕ) (s : ℕ) → greatest (xs ++ s ∷ []) ≡ max s (greatest xs)
greatest_more [] s = refl
greatest_more (x ∷ xs) s = let rest = greatest_more xs s in omega (arith, rest)

-- ---- what was seen
pub seen_now : (v u w : PortValue) (f x s : ℕ) → Came v u → Moves u w (Refs f) Load kinds.Look None x → FreeWord x s → SeenFree v w f s
unfolding moment_of
seen_now v u w f x s came m word =
    record {
      found = record { moment = moment_of u (Refs f) Load kinds.Look None x; was = met_after v u w _ came (moves_met u w (Refs f) Load kinds.Look None x m); place = refl; word = word.is };
      free = subst (λ y. is_free y ≡ true) word.is (word_free x s word);
    }

pub still_now : (v u w : PortValue) (f x s : ℕ) → Came v u → Moves u w (Refs f) Load kinds.Look None x → FreeWord x s → StillFree v w f s
unfolding left_by moment_of seen_now
still_now v u w f x s came m word =
    record {
      seen = seen_now v u w f x s came m word;
      last = subst (λ (q : Post). last_since (sizes_of q.machine) (length u.holdings.steps) (Refs f) w.holdings.steps ≡ Some s) (came_post v u came)
          (last_left u w (Refs f) Load kinds.Look None x m (length u.holdings.steps) (omega arith) ∙ ap (λ y. Some y) word.is);
    }

pub seen_later : (v u w : PortValue) (f s : ℕ) → Came u w → SeenFree v u f s → SeenFree v w f s
seen_later v u w f s came seen =
    record { found = record { moment = seen.found.moment; was = met_before v u w seen.found.moment seen.found.was came; place = seen.found.place; word = seen.found.word }; free = seen.free }

pub seen_from : (v u w : PortValue) (f s : ℕ) → Came v u → SeenFree u w f s → SeenFree v w f s
seen_from v u w f s came seen =
    record { found = record { moment = seen.found.moment; was = met_after v u w seen.found.moment came seen.found.was; place = seen.found.place; word = seen.found.word }; free = seen.free }

-- its word was kept since
pub still_later : (v u w : PortValue) (f s : ℕ) → Came v u → Came u w → KeepsLast u w (Refs f) → StillFree v u f s → StillFree v w f s
unfolding seen_later
still_later v u w f s first came keeps still =
    let k = length still.seen.found.moment.hand.steps in
    let early : k ≤ length u.holdings.steps = (let low = (met_within v u still.seen.found.moment still.seen.found.was).1 in omega (arith, low)) in
    record {
      seen = seen_later v u w f s came still.seen;
      last = subst (λ (q : Post). last_since (sizes_of q.machine) k (Refs f) w.holdings.steps ≡ last_since (sizes_of q.machine) k (Refs f) u.holdings.steps) (came_post v u first) (keeps k early) ∙ still.last;
    }

pub still_from : (v u w : PortValue) (f s : ℕ) → Came v u → StillFree u w f s → StillFree v w f s
unfolding seen_from
still_from v u w f s came still =
    record {
      seen = seen_from v u w f s came still.seen;
      last = subst (λ (q : Post). last_since (sizes_of q.machine) (length still.seen.found.moment.hand.steps) (Refs f) w.holdings.steps ≡ Some s) (came_post v u came) still.last;
    }

-- ---- the one with the greatest stamp
pub latest_now : (v u w : PortValue) (first f x s : ℕ) → Came v u → Moves u w (Refs f) Load kinds.Look None x → FreeWord x s → first ≤ f → IsLatest v w first (f + 1) f s
latest_now v u w first f x s came m word from = record { seen = seen_now v u w f x s came m word; had = had_now u w f x s m word; from = from; to = omega arith }

pub latest_later : (v u w : PortValue) (first below f s : ℕ) → Came u w → IsLatest v u first below f s → IsLatest v w first (below + 1) f s
latest_later v u w first below f s came l =
    record {
      seen = seen_later v u w f s came l.seen;
      had = had_later u w f s came l.had;
      from = l.from;
      to = (let to = l.to in omega (arith, to));
    }

-- a smaller one came only behind another
pub some_of : (k greatest s : ℕ) → (k ≡ 0 → greatest ≡ 0) → (greatest ≤ s → ⊥) → 0 < k
some_of zero greatest s none less = absurd (let is = none refl in less (omega (arith, is)))
some_of (suc k) greatest s none less = omega arith

-- ---- for the search
pub free_told : (w stamp : ℕ) → Some (Free stamp) ≡ ref_read w → IsRef (Free stamp) → FreeWord w stamp
unfolding IsRef
free_told w stamp reads low = record { read = sym reads; is = free_number w stamp (sym reads); low = low }

pub look_map_looks : (v u w : PortValue) (k x : ℕ) → Looks v u → Moves u w (Map k) Load kinds.Look None x → Same u w → Looks v w
look_map_looks v u w k x a m same = record { serves = λ r. serves_step v u w r [] (Map k) Load kinds.Look None x (a.serves r) m tt; hand = same ∙ a.hand }

pub may_look : (v u : PortValue) → Looks v u → MayWork v → MayWork u
may_look v u a may =
    record {
      running = ap (λ (y : PortValue). y.holdings.run) a.hand ∙ may.running;
      no_walk = ap (λ (y : PortValue). y.holdings.walk) a.hand ∙ may.no_walk;
      machine = subst (λ (n : Machine). IsMachine n) (sym (ap (λ (y : PortValue). y.post.machine) a.hand)) may.machine;
    }

pub found_from : (v u w : PortValue) (size : ℕ) (stamps : List ℕ) (c : Chosen) → Looks v u → IsFound u w size stamps c → IsFound v w size stamps c
found_from v u w size stamps c looks f =
    let l = f.latest in
    let came = looks_came v u looks in
    record {
      inside = f.inside;
      aligned = f.aligned;
      whole = f.whole;
      low = f.low;
      seen = λ j l. still_from v u w _ _ came (f.seen j l);
      free = f.free;
      most = f.most;
      stamp = f.stamp;
      latest = record { seen = seen_from v u w c.latest c.stamp came l.seen; had = l.had; from = l.from; to = l.to };
    }

pub found_some : (v u w : PortValue) (size : ℕ) (stamps : List ℕ) (o : Option Chosen) → Looks v u → IfSome o (λ c. IsFound u w size stamps c) → IfSome o (λ c. IsFound v w size stamps c)
found_some v u w size stamps None looks f = tt
found_some v u w size stamps (Some c) looks f = found_from v u w size stamps c looks f

pub block_fits : (b n s : ℕ) → 0 < s → b < n / s → b * s + s ≤ n
block_fits b n s some low = let k = (le-div_iff_mul-le {k = s} {x = b + 1} {y = n} some).0 (omega (arith, low)) in grind (arith, k)

-- counted in words of the map
pub run_fits : (b n k : ℕ) → 0 < k → b < n / (64 * k) → b * k + k ≤ (n + 63) / 64
run_fits b n k some low =
    let whole = block_fits b n (64 * k) (omega (arith, some)) low in
    let e : b * (64 * k) ≡ 64 * (b * k) = grind arith in
    omega (arith, whole, e)

-- a block with that number is aligned
pub block_aligned : (b s : ℕ) → 0 < s → (b * s) % s ≡ 0
block_aligned b s some = mul-mod_left b s

-- in a word of the map, too
pub bits_aligned : (w a s : ℕ) → 0 < s → 64 % s ≡ 0 → (64 * w + s * a) % s ≡ 0
bits_aligned w a s some parts = add-mul-mod_self_left (64 * w) s a ∙ sym (mul-mod_first 64 w s) ∙ ap (λ k. (k * w) % s) parts ∙ (let none : 0 * w ≡ 0 = omega arith in ap (λ k. k % s) none ∙ zero-mod s)

pub ruleset looking = (bits_aligned, block_aligned, looks_nothing, looks_then, look_map_looks, look_refs_looks, may_look, found_some)
