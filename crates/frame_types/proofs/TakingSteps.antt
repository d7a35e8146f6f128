-- The steps by which a type is taken, by the word that the look found.
use Rattle.std.proofs.Common.{◌≡◌, ◌≢◌, ℕ, if◌then◌else◌, Bool, true, false, List, Some, None, Ok, Err, refl, sym, ap, ◌∙◌, subst}
use Rattle.xp_words.specs.KindWords.{kind_read, kind_fields, kind_write}
use Rattle.xp_words.specs.Places.{number, sizes_of}
use Rattle.xp_words.specs.declared.kind.KindWord.{KindWord}
use Rattle.xp_words.specs.declared.kind.PageType.{PageType}
use Rattle.xp_words.specs.declared.place.Place.TheVariants.{Kind}
use Rattle.xp_words.specs.declared.reply.Pause.TheVariants.{Busy, Lost}
use Rattle.xp_words.specs.declared.reply.Refusal.TheVariants.{OtherType}
use Rattle.xp_words.specs.declared.reply.Stop.{Stop}
use Rattle.xp_words.specs.declared.reply.Stop.TheVariants.{Refused, Paused}
use Rattle.xp_board.specs.declared.step.Act.TheVariants.{Cas, Store}
use Rattle.xp_board.specs.declared.step.StepKind.TheVariants as kinds
use Rattle.xp_board.specs.KindSteps.{begun_kind, is_stale, raised_kind, resumed_kind}
use Rattle.xp_board.specs.Told.{Post, PortValue}
use Rattle.xp_board.proofs.KindForms.{fields_of}
use Rattle.step_maker.specs.Moves.{Came, Moves}
use Rattle.step_maker.proofs.Coming.{came_post, came_trans, moves_came}
use Rattle.step_maker.specs.Reasons.{OfOwner}
use Rattle.step_maker.specs.Visits.{Visit, visit, Does, Only, Then, Where}
use Rattle.step_maker.proofs.Visiting.{does_as, does_came, does_nothing, does_one, does_then}
use Rattle.flush_waits.specs.Listing.{WaitedFor}
use Rattle.frame_words.specs.Freeing.{PutBy, Puts}
use Rattle.kind_words.specs.Kinds.{live_kind, work_kind}
use Rattle.frame_types.specs.Found.{EndsBy, Finishes, GoesBy, Proceeds, IsWayOn, StoresKind, TakesBy, TakesFound, TypeBy, WaitsOf, is_kept_by, next_kind, saw_kind, swaps_kind}
use Rattle.frame_types.specs.Plain.{IsTakenBy, is_own, is_read_first, stop_by, type_stop, waits_by}
use Rattle.frame_types.specs.Standing.{standing_of}
use Rattle.frame_types.specs.Taking.{IsDone, Looked, progress_of}
use Rattle.frame_types.specs.declared.standing.Standing.{Standing}
use Rattle.frame_types.specs.declared.standing.Standing.TheVariants as stands
use Rattle.frame_types.specs.declared.taking.Taken.{Taken}
use Rattle.frame_types.specs.declared.taking.Taken.TheVariants.{Counted, InWork, Waiting}
use Rattle.frame_types.proofs.LeavingSteps.{stores}

-- ---- a frame that came into work goes on
module _ (v w : PortValue) (f : ℕ) (want : PageType) (marked own : Bool) (recorded : ℕ) where
  stored_as : (l k : KindWord) → l ≡ k → (found : ℕ) → Moves v w (Kind f) (Store (kind_write l)) kinds.Kind None found → Does v w (StoresKind f k)
  stored_as l k is found step = subst (λ y. Does v w (StoresKind f y)) is (stores v w f found l step)

  pub goes_live : is_read_first want ≡ false → (l : KindWord) → l ≡ live_kind want (if own then 1 else 2) → (found : ℕ) → Moves v w (Kind f) (Store (kind_write l)) kinds.Kind None found → Finishes v w f want marked own recorded Counted
  goes_live plain l is found step = (plain, stored_as l (live_kind want (if own then 1 else 2)) is found step)

  pub goes_unmarked : is_read_first want ≡ true → (progress : ℕ) → progress ≡ recorded → marked ≡ true → (l : KindWord) → l ≡ work_kind want false 0 → (found : ℕ) → Moves v w (Kind f) (Store (kind_write l)) kinds.Kind None found →
      Finishes v w f want marked own recorded (InWork progress own)
  goes_unmarked first progress so on l is found step = (
    (first, refl, so),
    subst (λ m. Does v w (λ vs. Where m (StoresKind f (work_kind want false 0)) vs)) (sym on) (stored_as l (work_kind want false 0) is found step),
  )

pub goes_as_it_was : (v : PortValue) (f : ℕ) (want : PageType) (marked own : Bool) (recorded : ℕ) → is_read_first want ≡ true → (progress : ℕ) → progress ≡ recorded → marked ≡ false → Finishes v v f want marked own recorded (InWork progress own)
goes_as_it_was v f want marked own recorded first progress so off = (
  (first, refl, so),
  subst (λ m. Does v v (λ vs. Where m (StoresKind f (work_kind want false 0)) vs)) (sym off) (does_nothing v),
)

module _ (v u w : PortValue) (f owner : ℕ) (want : PageType) (marked own : Bool) (stamp recorded : ℕ) where
  goes_then : (t : Taken) → Does v u (λ vs. WaitsOf v.post owner marked stamp t vs) → Finishes u w f want marked own recorded t → Proceeds v w f owner want marked stamp own recorded t
  goes_then t waits goes = (goes.0, does_then v u w (λ vs. WaitsOf v.post owner marked stamp t vs) (λ vs. EndsBy f want marked own t vs) waits goes.1)

  -- behind its flush
  pub goes_behind : (t : Taken) → IsDone t → marked ≡ true → Does v u (λ vs. WaitedFor v.post (OfOwner owner) stamp (Ok tt) vs) → Finishes u w f want marked own recorded t → Proceeds v w f owner want marked stamp own recorded t
  goes_behind Counted done on flushed goes = goes_then Counted (subst (λ m. Does v u (λ vs. WaitsOf v.post owner m stamp Counted vs)) (sym on) flushed) goes
  goes_behind (InWork progress mine) done on flushed goes = goes_then (InWork progress mine) (subst (λ m. Does v u (λ vs. WaitsOf v.post owner m stamp (InWork progress mine) vs)) (sym on) flushed) goes
  goes_behind (Waiting mine awaited stop) done on flushed goes = absurd done

-- where it waits for none
pub goes_at_once : (v w : PortValue) (f owner : ℕ) (want : PageType) (marked own : Bool) (stamp recorded : ℕ) (t : Taken) → marked ≡ false → Finishes v w f want marked own recorded t → Proceeds v w f owner want marked stamp own recorded t
goes_at_once v w f owner want marked own stamp recorded t off goes =
    goes_then v v w f owner want marked own stamp recorded t (subst (λ m. Does v v (λ vs. WaitsOf v.post owner m stamp t vs)) (sym off) (does_nothing v)) goes

-- where its flush is not to be had
pub goes_nowhere : (v w : PortValue) (f owner : ℕ) (want : PageType) (marked own : Bool) (stamp recorded : ℕ) (stop : Stop) → marked ≡ true → Does v w (λ vs. WaitedFor v.post (OfOwner owner) stamp (Err stop) vs) →
    Proceeds v w f owner want marked stamp own recorded (Waiting own stamp stop)
goes_nowhere v w f owner want marked own stamp recorded stop on waits =
    goes_then v w w f owner want marked own stamp recorded (Waiting own stamp stop)
    (subst (λ m. Does v w (λ vs. WaitsOf v.post owner m stamp (Waiting own stamp stop) vs)) (sym on) (does_as v w _ (λ vs. WaitsOf v.post owner true stamp (Waiting own stamp stop) vs) (λ vs steps. (refl, steps)) waits)) ((on, refl), does_nothing w)

-- ---- which way the call goes, by how the frame stood
dead_way : (want : PageType) (k : KindWord) (t : Taken) → IsWayOn want (is_stale k want) true (progress_of k) t → IsTakenBy want k stands.Dead t
dead_way want k Counted way = way
dead_way want k (InWork progress own) way = way
dead_way want k (Waiting own stamp stop) way = way

partial_way : (want : PageType) (k : KindWord) (t : Taken) → IsWayOn want k.unflushed k.kept (progress_of k) t → IsTakenBy want k stands.Partial t
partial_way want k Counted way = way
partial_way want k (InWork progress own) way = way
partial_way want k (Waiting own stamp stop) way = way

-- the steps behind the look, of a frame that comes into work
abbrev works_by : Post → ℕ → ℕ → PageType → ℕ → KindWord → Standing → Taken → List Visit → Type 0
works_by q f owner want x k s t vs =
    Then (Only (swaps_kind f x (next_kind k want s) x))
    (Then (Where (is_kept_by k s) (PutBy f)) (λ gs. GoesBy q f owner want (waits_by k want s) k.number (is_own k s) t gs)) vs

-- ---- from before the look
module _ (b v : PortValue) (f owner : ℕ) (want : PageType) (word : ℕ) (l : Looked b v f owner want word) (k : KindWord) (read : kind_read word ≡ Some k) (was : word ≡ kind_write k) where
  of : kind_fields word ≡ k
  of = fields_of word k read

  came_here : Came b v
  came_here = moves_came b v _ _ _ _ word l.look

  look_alone : Does b v (Only (saw_kind f word))
  look_alone = does_one b v _ _ _ _ word l.look

  module _ (s : Standing) (stand : standing_of k want ≡ s) where
    standing : standing_of (kind_fields word) want ≡ s
    standing = ap (λ y. standing_of y want) of ∙ stand

    stop_is : type_stop f want word ≡ stop_by f want word s
    stop_is = ap (stop_by f want word) standing

    -- the exchange, by the word that was found
    tried : (x : PortValue) (found : ℕ) → Moves v x (Kind f) (Cas (kind_write k) (kind_write (next_kind k want s))) kinds.Kind None found → Does v x (Only (swaps_kind f word (next_kind k want s) found))
    tried x found step = subst (λ y. Does v x (Only (visit (Kind f) (Cas y (kind_write (next_kind k want s))) found))) (sym was) (does_one v x _ _ _ _ found step)

    won : (x : PortValue) → Moves v x (Kind f) (Cas (kind_write k) (kind_write (next_kind k want s))) kinds.Kind None (kind_write k) → Does v x (Only (swaps_kind f word (next_kind k want s) word))
    won x step = subst (λ y. Does v x (Only (swaps_kind f word (next_kind k want s) y))) (sym was) (tried x (kind_write k) step)

    taken : (w : PortValue) (t : Taken) → stop_by f want word s ≡ None → IsTakenBy want k s t → Does v w (λ vs. TakesBy b.post f owner want word s t vs) → TakesFound b w f owner want (Ok t)
    taken w t none way rest =
        does_as b w (Then (Only (saw_kind f word)) (λ ts. TakesBy b.post f owner want word s t ts)) (λ vs. TypeBy b.post f owner want (Ok t) vs)
        (λ vs steps.
        record {
          word = word;
          free = stop_is ∙ none;
          way = subst (λ y. IsTakenBy want (kind_fields word) y t) (sym standing) (subst (λ y. IsTakenBy want y s t) (sym of) way);
          steps = subst (λ y. Then (Only (saw_kind f word)) (λ ts. TakesBy b.post f owner want word y t ts) vs) (sym standing) steps;
        }) (does_then b v w (Only (saw_kind f word)) (λ ts. TakesBy b.post f owner want word s t ts) look_alone rest)

    pub lost_found : (w : PortValue) (found : ℕ) → stop_by f want word s ≡ None → Moves v w (Kind f) (Cas (kind_write k) (kind_write (next_kind k want s))) kinds.Kind None found → found ≢ kind_write k →
        (e : Stop) → e ≡ Paused (Lost (number (sizes_of w.post.machine) (Kind f)) word found) → TakesFound b w f owner want (Err e)
    lost_found w found none step off e is =
        let came = came_trans b v w came_here (moves_came v w _ _ _ _ found step) in
        let at : number (sizes_of w.post.machine) (Kind f) ≡ number (sizes_of b.post.machine) (Kind f) = ap (λ (q : Post). number (sizes_of q.machine) (Kind f)) (came_post b w came) in
        subst (λ y. TakesFound b w f owner want (Err y)) (sym is)
        (does_as b w (Then (Only (saw_kind f word)) (Only (swaps_kind f word (next_kind k want s) found)))
        (λ vs. TypeBy b.post f owner want (Err (Paused (Lost (number (sizes_of w.post.machine) (Kind f)) word found))) vs)
        (λ vs steps. (
          at,
          stop_is ∙ none,
          (λ same. off (same ∙ was)),
          subst (λ y. Then (Only (saw_kind f word)) (Only (swaps_kind f word (next_kind (kind_fields word) want y) found)) vs) (sym standing)
              (subst (λ y. Then (Only (saw_kind f word)) (Only (swaps_kind f word (next_kind y want s) found)) vs) (sym of) steps),
        )) (does_then b v w (Only (saw_kind f word)) (Only (swaps_kind f word (next_kind k want s) found)) look_alone (tried w found step)))

    -- the exchange, the reference that was given back, if one was, and the rest
    worked : (x y w : PortValue) (t : Taken) → Moves v x (Kind f) (Cas (kind_write k) (kind_write (next_kind k want s))) kinds.Kind None (kind_write k) → Does x y (λ vs. Where (is_kept_by k s) (PutBy f) vs) →
        Does y w (λ gs. GoesBy y.post f owner want (waits_by k want s) k.number (is_own k s) t gs) → Does v w (λ vs. works_by b.post f owner want word (kind_fields word) s t vs)
    worked x y w t step puts goes =
        let came = came_trans b x y (came_trans b v x came_here (moves_came v x _ _ _ _ _ step)) (does_came x y _ puts) in
        subst (λ j. Does v w (λ vs. works_by b.post f owner want word j s t vs)) (sym of)
        (does_then v x w (Only (swaps_kind f word (next_kind k want s) word)) (Then (Where (is_kept_by k s) (PutBy f)) (λ gs. GoesBy b.post f owner want (waits_by k want s) k.number (is_own k s) t gs)) (won x step)
        (does_then x y w (Where (is_kept_by k s) (PutBy f)) (λ gs. GoesBy b.post f owner want (waits_by k want s) k.number (is_own k s) t gs) puts
        (subst (λ (q : Post). Does y w (λ gs. GoesBy q f owner want (waits_by k want s) k.number (is_own k s) t gs)) (came_post b y came) goes)))

  pub busy_found : standing_of k want ≡ stands.Busy → TakesFound b v f owner want (Err (Paused (Busy f word)))
  busy_found stand = does_as b v _ (λ vs. TypeBy b.post f owner want (Err (Paused (Busy f word))) vs) (λ vs one. (word, stop_is stands.Busy stand, one)) look_alone

  pub other_found : standing_of k want ≡ stands.Other → TakesFound b v f owner want (Err (Refused (OtherType f want word)))
  other_found stand = does_as b v _ (λ vs. TypeBy b.post f owner want (Err (Refused (OtherType f want word))) vs) (λ vs one. (word, stop_is stands.Other stand, one)) look_alone

  pub counted_found : (w : PortValue) → standing_of k want ≡ stands.Counted → Moves v w (Kind f) (Cas (kind_write k) (kind_write (raised_kind k))) kinds.Kind None (kind_write k) → TakesFound b w f owner want (Ok Counted)
  counted_found w stand step =
      taken stands.Counted stand w Counted refl refl (subst (λ y. Does v w (Only (swaps_kind f word (next_kind y want stands.Counted) word))) (sym of) (won stands.Counted stand w step))

  pub dead_found : (x w : PortValue) (t : Taken) → standing_of k want ≡ stands.Dead → Moves v x (Kind f) (Cas (kind_write k) (kind_write (begun_kind k want))) kinds.Kind None (kind_write k) →
      Proceeds x w f owner want (is_stale k want) k.number true (progress_of k) t → TakesFound b w f owner want (Ok t)
  dead_found x w t stand step goes = taken stands.Dead stand w t refl (dead_way want k t goes.0) (worked stands.Dead stand x x w t step (does_nothing x) goes.1)

  module _ (x : PortValue) (stand : standing_of k want ≡ stands.Partial) (step : Moves v x (Kind f) (Cas (kind_write k) (kind_write (resumed_kind k))) kinds.Kind None (kind_write k)) where
    resumed_found : (y w : PortValue) (t : Taken) (own : Bool) → k.kept ≡ own → Does x y (λ vs. Where own (PutBy f) vs) → Proceeds y w f owner want k.unflushed k.number own (progress_of k) t → TakesFound b w f owner want (Ok t)
    resumed_found y w t own kept puts goes =
        let on : Proceeds y w f owner want k.unflushed k.number k.kept (progress_of k) t = subst (λ o. Proceeds y w f owner want k.unflushed k.number o (progress_of k) t) (sym kept) goes in
        taken stands.Partial stand w t refl (partial_way want k t on.0)
        (worked stands.Partial stand x y w t step (subst (λ o. Does x y (λ vs. Where o (PutBy f) vs)) (sym kept) puts) on.1)

    pub unkept_found : (w : PortValue) (t : Taken) → k.kept ≡ false → Proceeds x w f owner want k.unflushed k.number false (progress_of k) t → TakesFound b w f owner want (Ok t)
    unkept_found w t unkept goes = resumed_found x w t false unkept (does_nothing x) goes

    pub kept_found : (y w : PortValue) (t : Taken) → k.kept ≡ true → Puts x y f → Proceeds y w f owner want k.unflushed k.number true (progress_of k) t → TakesFound b w f owner want (Ok t)
    kept_found y w t kept puts goes = resumed_found y w t true kept puts goes
