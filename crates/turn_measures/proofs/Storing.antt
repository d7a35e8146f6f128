-- A kind word that is stored, and nothing else of which ranks, old words and lives are read.
use Rattle.std.proofs.Common.{◌≡◌, ◌≢◌, ℕ, ◌<◌, if◌then◌else◌, true, false, Option, Some, None, IsTrue, refl, sym, ap, ◌∙◌, subst, arith}
use Rattle.std.proofs.lemmas.Bool.Decides.{nat_tests}
use Rattle.xp_words.specs.KindWords.{kind_write}
use Rattle.xp_words.specs.Machine.{Machine}
use Rattle.xp_words.specs.Places.{Sizes, is_place, sizes_of}
use Rattle.xp_words.specs.declared.kind.KindWord.{KindWord}
use Rattle.xp_words.specs.declared.kind.PageType.{PageType}
use Rattle.xp_words.specs.declared.place.Place.{Place}
use Rattle.xp_words.specs.declared.place.Place.TheVariants.{Kind, Life}
use Rattle.xp_board.specs.Acts.{left_by}
use Rattle.xp_board.specs.Lists.{EachOf}
use Rattle.xp_board.specs.Told.{PortValue, is_telling, told_word}
use Rattle.xp_board.specs.declared.step.Act.TheVariants.{Load, Store}
use Rattle.xp_board.specs.declared.step.StepKind.TheVariants as kinds
use Rattle.xp_board.proofs.PlaceTests.{is_same-other, is_same-refl}
use Rattle.step_maker.specs.Moves.{Moves}
use Rattle.step_maker.specs.Plain.{Words, change}
use Rattle.step_maker.proofs.Coming.{moves_came}
use Rattle.step_maker.proofs.Telling.{came_telling, told_elsewhere, told_here, told_there}
use Rattle.step_maker.specs.Visits.{Does}
use Rattle.frame_words.specs.Freeing.{FreesBy, PutBy}
use Rattle.frame_claims.proofs.Telling.{Alls, after_parts, alls_nothing, alls_one, alls_then, words_after}
use Rattle.frame_types.specs.Found.{SharedBy}
use Rattle.kept_marks.specs.Marks as marks
use Rattle.kept_marks.specs.Marks.{KeptFor, LeftSo}
use Rattle.kind_words.specs.Kinds.{partial_kind}
use Rattle.frame_ranks.specs.Ranks.{AreAllAlive}
use Rattle.turn_measures.proofs.Forward.{Still, is_ranked}
use Rattle.turn_measures.proofs.Asides.{LeavesRanks, Passes, aside_still, does_tells, moves_passes}

pub record Stored (v w : PortValue) (f : ℕ) (k : KindWord) : Type 0 where
  pub here : told_word w (Kind f) ≡ kind_write k
  pub there : (q : Place) → is_ranked q ≡ true → q ≢ Kind f → told_word w q ≡ told_word v q

-- ---- one step
pub moves_stored : (v w : PortValue) (f found : ℕ) (k : KindWord) → is_telling v ≡ true → Moves v w (Kind f) (Store (kind_write k)) kinds.Kind None found → Stored v w f k
unfolding left_by
moves_stored v w f found k telling m = record { here = told_here v w _ _ _ _ _ m telling; there = λ q ranked off. told_elsewhere v w _ _ _ _ _ m q off }

pub stored_then : (v u w : PortValue) (f : ℕ) (k : KindWord) → Stored v u f k → Passes u w → Stored v w f k
stored_then v u w f k s p = record { here = p.still (Kind f) refl ∙ s.here; there = λ q ranked off. p.still q ranked ∙ s.there q ranked off }

-- ---- left with its mark
life_there : (z : Sizes) (d : ℕ) → IsTrue (is_place z (Life d)) → d < z.domains
unfolding is_place
life_there z d is = grind (arith, nat_tests)

module _ (v u x : PortValue) (f owner life : ℕ) (k : KindWord) (telling : is_telling v ≡ true) (alive : AreAllAlive v.post.machine (told_word v)) (left : LeftSo v u f k) (look : Moves u x (Life owner) Load kinds.Look None life) where
  telling_there : is_telling u ≡ true
  telling_there = came_telling v u (moves_came v u _ _ _ _ _ left.1) ∙ telling

  -- nobody finds a dying domain
  life_none : life ≡ 0
  life_none =
      let s = moves_stored v u f left.0 k telling left.1 in
      let real : owner < (sizes_of v.post.machine).domains = life_there (sizes_of v.post.machine) owner (subst (λ (n : Machine). IsTrue (is_place (sizes_of n) (Life owner))) (ap (λ (y : PortValue). y.post.machine) left.1.to) look.may.place) in
      sym (told_there u x _ _ _ _ _ look telling_there) ∙ s.there (Life owner) refl (λ e. cc) ∙ alive owner real

pub kept_stored : (v w : PortValue) (f : ℕ) (k : KindWord) (owner : ℕ) → is_telling v ≡ true → AreAllAlive v.post.machine (told_word v) → KeptFor v w f k owner → Stored v w f k
kept_stored v w f k owner telling alive (marks.own home left) = moves_stored v w f left.0 k telling left.1
kept_stored v w f k owner telling alive (marks.alive u foreign left look) =
    stored_then v u w f k (moves_stored v u f left.0 k telling left.1) (moves_passes u w _ _ _ _ _ (came_telling v u (moves_came v u _ _ _ _ _ left.1) ∙ telling) refl look)
kept_stored v w f k owner telling alive (marks.dying u x y life foreign left look off back names) = absurd (off (life_none v u x f owner life k telling alive left look))
kept_stored v w f k owner telling alive (marks.taken u x life found foreign left look off back other) = absurd (off (life_none v u x f owner life k telling alive left look))

-- ---- left as another holder left it
frees_aside : (f : ℕ) (o : Option ℕ) → Alls LeavesRanks (FreesBy f o)
unfolding EachOf
frees_aside f (Some owner) vs h = subst (EachOf LeavesRanks) (sym h.4) (refl, (refl, (refl, (refl, tt))))
frees_aside f None vs h = alls_nothing LeavesRanks vs h

put_aside : (f : ℕ) → Alls LeavesRanks (PutBy f)
put_aside f vs h = alls_then LeavesRanks _ _ (alls_one LeavesRanks _ refl) (frees_aside f h.last) vs h.steps

pub set_here : (f : ℕ) (k : KindWord) (m : Words) → change (Store (kind_write k)) (Kind f) m (Kind f) ≡ kind_write k
unfolding left_by
set_here f k m = ap (λ b. if b then kind_write k else m (Kind f)) (is_same-refl (Kind f))

pub set_there : (f x : ℕ) (m : Words) (q : Place) → q ≢ Kind f → change (Store x) (Kind f) m q ≡ m q
unfolding left_by
set_there f x m q off = ap (λ b. if b then x else m q) (is_same-other q (Kind f) off)

pub shared_stored : (v w : PortValue) (f stamp : ℕ) (want : PageType) → is_telling v ≡ true → Does v w (λ vs. SharedBy f want stamp vs) → Stored v w f (partial_kind want false true 0 stamp)
shared_stored v w f stamp want telling does =
    let k : KindWord = partial_kind want false true 0 stamp in
    let m : Words = told_word v in
    let t = does_tells v w (λ vs. SharedBy f want stamp vs) does telling in
    let set : Words = change (Store (kind_write k)) (Kind f) m in
    let is : words_after m t.list ≡ words_after set t.is.after =
    ap (words_after m) t.is.list ∙ after_parts m t.is.before t.is.after ∙ ap (λ vs. words_after (words_after m vs) t.is.after) t.is.first.1 in
    let still : Still set (words_after set t.is.after) = aside_still set t.is.after (put_aside f t.is.after t.is.next) in
    record {
      here = t.words (Kind f) ∙ ap (λ (y : Words). y (Kind f)) is ∙ still (Kind f) refl ∙ set_here f k m;
      there = λ q ranked off. t.words q ∙ ap (λ (y : Words). y q) is ∙ still q ranked ∙ set_there f (kind_write k) m q off;
    }
