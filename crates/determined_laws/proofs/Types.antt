-- A type that is taken, left or given back is determined by the words that are found.
use Rattle.std.proofs.Common.{◌≡◌, ◌≢◌, ◌⊎◌, ℕ, ◌+◌, ◌<◌, ◌≤◌, ◌==◌, if◌then◌else◌, Bool, true, false, List, [], ◌∷◌, ◌++◌, length, Option, Some, None, Result, Ok, Err, refl, sym, ap, ◌∙◌, subst, inl, inr, arith}
use Rattle.xp_words.specs.KindWords.{kind_fields, kind_write}
use Rattle.xp_words.specs.Machine.{Machine}
use Rattle.xp_words.specs.Places.{number, sizes_of}
use Rattle.xp_words.specs.declared.kind.KindWord.{KindWord}
use Rattle.xp_words.specs.declared.kind.PageType.{PageType}
use Rattle.xp_words.specs.declared.place.Place.TheVariants.{Clock, Kind}
use Rattle.xp_words.specs.declared.reply.Pause.TheVariants.{Lost}
use Rattle.xp_words.specs.declared.reply.Stop.{Stop}
use Rattle.xp_words.specs.declared.reply.Stop.TheVariants.{Paused, Refused}
use Rattle.xp_board.specs.declared.step.Act.TheVariants.{Add, Cas, Load, Store}
use Rattle.xp_board.specs.RefSteps.{one_down}
use Rattle.xp_board.specs.Told.{Post}
use Rattle.step_maker.specs.Reasons.{OfOwner}
use Rattle.step_maker.specs.Visits.{Visit, Nothing, Only, Then, Where, visit}
use Rattle.flush_waits.specs.Listing.{WaitedFor}
use Rattle.frame_words.specs.Freeing.{PutBy}
use Rattle.kind_words.specs.Kinds.{dead_kind, live_kind, partial_kind, work_kind}
use Rattle.frame_types.specs.Found.{DeadBy, Dies, DropsBy, EndsBy, GoesBy, LosesBy, SharedBy, StopsBy, StoresKind, TakesBy, TakesOf, TypeBy, WaitsOf, is_kept_by, next_kind, saw_kind, swaps_kind}
use Rattle.frame_types.specs.Plain.{IsTakenBy, is_own, is_read_first, type_stop, waits_by}
use Rattle.frame_types.specs.Standing.{standing_of}
use Rattle.frame_types.specs.Taking.{progress_of}
use Rattle.frame_types.specs.declared.standing.Standing.{Standing}
use Rattle.frame_types.specs.declared.standing.Standing.TheVariants as stands
use Rattle.frame_types.specs.declared.taking.Taken.{Taken}
use Rattle.frame_types.specs.declared.taking.Taken.TheVariants.{Counted, InWork, Waiting}
use Rattle.determined_laws.proofs.References.{put_tie}
use Rattle.determined_laws.proofs.Waited.{waited_tie}
use Rattle.determined_laws.specs.Forks.{Forks, Tie}
use Rattle.determined_laws.proofs.Ties.{fork_here, tie_map, tie_lists, swapped, forks_newer, tie_one, tie_then}

-- ---- a store of a kind word
pub store_tie : (f : ℕ) (k : KindWord) (us vs : List Visit) → StoresKind f k us → StoresKind f k vs → Tie us vs (Unit {0})
store_tie f k us vs p q = tie_lists us vs _ _ _ p.1 q.1 (tie_map _ _ _ _ (tie_one _ (Kind f) (Store (kind_write k)) None p.0 q.0) (λ e. tt))

where_tie : (b : Bool) (P : List Visit → Type 0) (us vs : List Visit) → ((us vs : List Visit) → P us → P vs → Tie us vs (Unit {0})) → Where b P us → Where b P vs → Tie us vs (Unit {0})
where_tie true P us vs t p q = t us vs p q
where_tie false P us vs t p q = inr (p ∙ sym q, tt)

pub then_tie : (P Q P' Q' : List Visit → Type 0) (us vs : List Visit) (E F : Type 0) (s : Then P Q us) (t : Then P' Q' vs) → Tie s.before t.before E → (E → Tie s.after t.after F) → Tie us vs F
then_tie P Q P' Q' us vs E F s t first next = tie_lists us vs _ _ _ s.list t.list (tie_then s.before t.before s.after t.after E F first (λ e g. next g))

pub dies_tie : (f : ℕ) (want : PageType) (marked : Bool) (us vs : List Visit) → Dies f want marked us → Dies f want marked vs → Tie us vs (Unit {0})
dies_tie f want marked us vs p q =
    then_tie _ _ _ _ us vs (p.0 ≡ q.0) _ p.1 q.1 (tie_lists _ _ _ _ _ p.1.first q.1.first (tie_one _ Clock Load None p.0 q.0))
    (λ e. store_tie f (dead_kind want marked q.0) p.1.after q.1.after (subst (λ z. StoresKind f (dead_kind want marked z) p.1.after) e p.1.next) q.1.next)

pub dead_tie : (f : ℕ) (want : PageType) (us vs : List Visit) → DeadBy f want us → DeadBy f want vs → Tie us vs (Unit {0})
dead_tie f want us vs p q = then_tie _ _ _ _ us vs (Unit {0}) _ p q (dies_tie f want true p.before q.before p.first q.first) (λ e. put_tie f p.after q.after p.next q.next)

pub shared_tie : (f : ℕ) (want : PageType) (stamp : ℕ) (us vs : List Visit) → SharedBy f want stamp us → SharedBy f want stamp vs → Tie us vs (Unit {0})
shared_tie f want stamp us vs p q = then_tie _ _ _ _ us vs (Unit {0}) _ p q (store_tie f (partial_kind want false true 0 stamp) p.before q.before p.first q.first) (λ e. put_tie f p.after q.after p.next q.next)

pub drops_tie : (f : ℕ) (kind : PageType) (us vs : List Visit) → DropsBy f kind us → DropsBy f kind vs → Tie us vs (Unit {0})
drops_tie f kind us vs p q =
    then_tie _ _ _ _ us vs (p.0 ≡ q.0) _ p.1 q.1 (tie_lists _ _ _ _ _ p.1.first q.1.first (tie_one _ (Kind f) (Add one_down) None p.0 q.0))
    (λ e. let a = p.1.next in let b = q.1.next in
    then_tie _ _ _ _ p.1.after q.1.after (Unit {0}) _ a b
    (where_tie ((kind_fields q.0).number == 1) (Dies f kind false) a.before b.before (dies_tie f kind false) (subst (λ z. Where ((kind_fields z).number == 1) (Dies f kind false) a.before) e a.first) b.first)
    (λ g. put_tie f a.after b.after a.next b.next))

-- ---- a frame that came into work goes on
module _ (q : Post) (real : q.vcpu < length q.machine.vcpu_domain) (f owner : ℕ) (want : PageType) where
  -- that it was taken so
  data Went (marked own : Bool) (progress : ℕ) : Taken → Type 0 where
    counted : is_read_first want ≡ false → Went marked own progress Counted
    in_work : is_read_first want ≡ true → Went marked own progress (InWork progress own)
    waiting : (stamp : ℕ) (stop : Stop) → marked ≡ true → Went marked own progress (Waiting own stamp stop)

  ok_err : (us vs : List Visit) (stamp : ℕ) (e : Stop) → WaitedFor q (OfOwner owner) stamp (Ok tt) us → WaitedFor q (OfOwner owner) stamp (Err e) vs → Forks us vs
  ok_err us vs stamp e p r = by (waited_tie q (OfOwner owner) stamp real (Ok tt) (Err e) us vs p r)
    where
      by : Tie us vs (◌≡◌ {A = Result (Unit {0}) Stop} (Ok tt) (Err e)) → Forks us vs
      by (inl t) = t
      by (inr s) = absurd (let t = s.1 in cc)

  -- the wait in front
  front_ok : (stamp : ℕ) (us vs : List Visit) → WaitedFor q (OfOwner owner) stamp (Ok tt) us → WaitedFor q (OfOwner owner) stamp (Ok tt) vs → Tie us vs (Unit {0})
  front_ok stamp us vs p r = tie_map us vs _ _ (waited_tie q (OfOwner owner) stamp real (Ok tt) (Ok tt) us vs p r) (λ e. tt)

  wait_same : (own : Bool) (stamp a b : ℕ) (e g : Stop) → a ≡ stamp → b ≡ stamp → ◌≡◌ {A = Result (Unit {0}) Stop} (Err e) (Err g) → Waiting own a e ≡ Waiting own b g
  wait_same own stamp a b e g x y z = let t : e ≡ g = cc in rw (x, y, t) refl

  goes_tie : (marked own : Bool) (progress stamp : ℕ) (t r : Taken) (us vs : List Visit) → Went marked own progress t → Went marked own progress r → GoesBy q f owner want marked stamp own t us → GoesBy q f owner want marked stamp own r vs → Tie us vs (t ≡ r)
  goes_tie false own progress stamp _ _ us vs (counted c) (counted d) p s =
      then_tie _ _ _ _ us vs (Unit {0}) _ p s (inr (p.first ∙ sym s.first, tt)) (λ e. tie_map _ _ _ _ (store_tie f (live_kind want (if own then 1 else 2)) p.after s.after p.next s.next) (λ z. refl))
  goes_tie true own progress stamp _ _ us vs (counted c) (counted d) p s =
      then_tie _ _ _ _ us vs (Unit {0}) _ p s (front_ok stamp p.before s.before p.first s.first) (λ e. tie_map _ _ _ _ (store_tie f (live_kind want (if own then 1 else 2)) p.after s.after p.next s.next) (λ z. refl))
  goes_tie marked own progress stamp _ _ us vs (counted c) (in_work d) p s = absurd (let z = sym c ∙ d in cc)
  goes_tie true own progress stamp _ _ us vs (counted c) (waiting k e m) p s =
      tie_lists us vs _ _ _ p.list s.list (inl (forks_newer p.before s.before p.after s.after (ok_err p.before s.before stamp e p.first s.first.1)))
  goes_tie false own progress stamp _ _ us vs (counted c) (waiting k e m) p s = absurd cc
  goes_tie marked own progress stamp _ _ us vs (in_work c) (counted d) p s = absurd (let z = sym c ∙ d in cc)
  goes_tie false own progress stamp _ _ us vs (in_work c) (in_work d) p s =
      then_tie _ _ _ _ us vs (Unit {0}) _ p s (inr (p.first ∙ sym s.first, tt)) (λ e. tie_map _ _ _ _ (where_tie false (StoresKind f (work_kind want false 0)) p.after s.after (store_tie f (work_kind want false 0)) p.next s.next) (λ z. refl))
  goes_tie true own progress stamp _ _ us vs (in_work c) (in_work d) p s =
      then_tie _ _ _ _ us vs (Unit {0}) _ p s (front_ok stamp p.before s.before p.first s.first)
      (λ e. tie_map _ _ _ _ (where_tie true (StoresKind f (work_kind want false 0)) p.after s.after (store_tie f (work_kind want false 0)) p.next s.next) (λ z. refl))
  goes_tie true own progress stamp _ _ us vs (in_work c) (waiting k e m) p s =
      tie_lists us vs _ _ _ p.list s.list (inl (forks_newer p.before s.before p.after s.after (ok_err p.before s.before stamp e p.first s.first.1)))
  goes_tie false own progress stamp _ _ us vs (in_work c) (waiting k e m) p s = absurd cc
  goes_tie true own progress stamp _ _ us vs (waiting k e m) (counted d) p s =
      tie_lists us vs _ _ _ p.list s.list (inl (forks_newer p.before s.before p.after s.after (swapped s.before p.before (ok_err s.before p.before stamp e s.first p.first.1))))
  goes_tie false own progress stamp _ _ us vs (waiting k e m) (counted d) p s = absurd cc
  goes_tie true own progress stamp _ _ us vs (waiting k e m) (in_work d) p s =
      tie_lists us vs _ _ _ p.list s.list (inl (forks_newer p.before s.before p.after s.after (swapped s.before p.before (ok_err s.before p.before stamp e s.first p.first.1))))
  goes_tie false own progress stamp _ _ us vs (waiting k e m) (in_work d) p s = absurd cc
  goes_tie true own progress stamp _ _ us vs (waiting k e m) (waiting l g h) p s =
      then_tie _ _ _ _ us vs (◌≡◌ {A = Result (Unit {0}) Stop} (Err e) (Err g)) _ p s (waited_tie q (OfOwner owner) stamp real (Err e) (Err g) p.before s.before p.first.1 s.first.1)
      (λ z. inr (p.next ∙ sym s.next, wait_same own stamp k l e g p.first.0 s.first.0 z))
  goes_tie false own progress stamp _ _ us vs (waiting k e m) (waiting l g h) p s = absurd cc

  -- ---- behind the exchange, by how the frame stood
  abbrev On : ℕ → Standing → Taken → List Visit → Type 0
  On x s t vs = Then (Where (is_kept_by (kind_fields x) s) (PutBy f)) (λ gs. GoesBy q f owner want (waits_by (kind_fields x) want s) (kind_fields x).number (is_own (kind_fields x) s) t gs) vs

  on_tie : (x : ℕ) (s : Standing) (t r : Taken) (us vs : List Visit) → Went (waits_by (kind_fields x) want s) (is_own (kind_fields x) s) (progress_of (kind_fields x)) t → Went (waits_by (kind_fields x) want s) (is_own (kind_fields x) s) (progress_of (kind_fields x)) r →
      On x s t us → On x s r vs → Tie us vs (t ≡ r)
  on_tie x s t r us vs w z p k =
      then_tie _ _ _ _ us vs (Unit {0}) _ p k (where_tie (is_kept_by (kind_fields x) s) (PutBy f) p.before k.before (put_tie f) p.first k.first)
      (λ e. goes_tie (waits_by (kind_fields x) want s) (is_own (kind_fields x) s) (progress_of (kind_fields x)) (kind_fields x).number t r p.after k.after w z p.next k.next)

  went : (m o : Bool) (g : ℕ) (t : Taken) → is_read_first want ≡ false → t ≡ Counted → Went m o g t
  went m o g t c e = subst (λ z. Went m o g z) (sym e) (counted c)

  -- what is taken otherwise than by a count
  went_by : (k : KindWord) (s : Standing) (t : Taken) → ((s ≡ stands.Counted) → ⊥) → IsTakenBy want k s t → Went (waits_by k want s) (is_own k s) (progress_of k) t
  went_by k stands.Counted t off p = absurd (off refl)
  went_by k stands.Dead Counted off p = counted p
  went_by k stands.Dead (InWork g o) off p = rw (p.1, p.2) (in_work p.0)
  went_by k stands.Dead (Waiting o g e) off p = rw p.1 (waiting g e p.0)
  went_by k stands.Partial Counted off p = counted p
  went_by k stands.Partial (InWork g o) off p = rw (p.1, p.2) (in_work p.0)
  went_by k stands.Partial (Waiting o g e) off p = rw p.1 (waiting g e p.0)
  went_by k stands.Busy Counted off p = counted p
  went_by k stands.Busy (InWork g o) off p = rw (p.1, p.2) (in_work p.0)
  went_by k stands.Busy (Waiting o g e) off p = rw p.1 (waiting g e p.0)
  went_by k stands.Other Counted off p = counted p
  went_by k stands.Other (InWork g o) off p = rw (p.1, p.2) (in_work p.0)
  went_by k stands.Other (Waiting o g e) off p = rw p.1 (waiting g e p.0)

  -- ---- the whole: one look, and what follows from the word that it found
  abbrev stands_as : ℕ → Standing
  stands_as x = standing_of (kind_fields x) want

  abbrev swap : ℕ → ℕ → Visit
  swap x y = swaps_kind f x (next_kind (kind_fields x) want (stands_as x)) y

  data TypeRest (x : ℕ) : Result Taken Stop → List Visit → Type 0 where
    had : (t : Taken) (vs : List Visit) → type_stop f want x ≡ None → IsTakenBy want (kind_fields x) (stands_as x) t → TakesBy q f owner want x (stands_as x) t vs → TypeRest x (Ok t) vs
    overtaken : (y : ℕ) → type_stop f want x ≡ None → y ≢ x → TypeRest x (Err (Paused (Lost (number (sizes_of q.machine) (Kind f)) x y))) (swap x y ∷ [])
    barred : (e : Stop) → type_stop f want x ≡ Some e → TypeRest x (Err e) []

  data Typed (a : Result Taken Stop) : List Visit → Type 0 where
    looked : (x : ℕ) (rest : List Visit) → TypeRest x a rest → Typed a (rest ++ (saw_kind f x ∷ []))

  typed_as : (a : Result Taken Stop) (us vs : List Visit) → us ≡ vs → Typed a vs → Typed a us
  typed_as a us vs e t = subst (λ z. Typed a z) (sym e) t

  stopped_typed : (e : Stop) (vs : List Visit) → StopsBy f want e vs → Typed (Err e) vs
  stopped_typed e vs p = typed_as (Err e) vs ([] ++ (saw_kind f p.0 ∷ [])) p.2 (looked p.0 [] (barred e p.1))

  typed : (a : Result Taken Stop) (vs : List Visit) → TypeBy q f owner want a vs → Typed a vs
  typed (Ok t) vs p =
      let s = p.steps in
      typed_as (Ok t) vs (s.after ++ (saw_kind f p.word ∷ [])) (s.list ∙ ap (λ z. s.after ++ z) s.first) (looked p.word s.after (had t s.after p.free p.way s.next))
  typed (Err (Paused (Lost place x y))) vs p =
      let s = p.3 in
      typed_as (Err (Paused (Lost place x y))) vs ((swap x y ∷ []) ++ (saw_kind f x ∷ [])) (s.list ∙ (ap (λ z. s.after ++ z) s.first ∙ ap (λ z. z ++ (saw_kind f x ∷ [])) s.next))
      (looked x (swap x y ∷ []) (subst (λ z. TypeRest x (Err (Paused (Lost z x y))) (swap x y ∷ [])) (sym p.0) (overtaken y p.1 p.2)))
  typed (Err e) vs p = stopped_typed e vs p

  -- ---- by how the frame stood
  data Stands : Standing → Type 0 where
    as_counted : Stands stands.Counted
    as_other : (s : Standing) → ((s ≡ stands.Counted) → ⊥) → Stands s

  stands_by : (s : Standing) → Stands s
  stands_by stands.Counted = as_counted
  stands_by stands.Dead = as_other stands.Dead (λ e. cc)
  stands_by stands.Partial = as_other stands.Partial (λ e. cc)
  stands_by stands.Busy = as_other stands.Busy (λ e. cc)
  stands_by stands.Other = as_other stands.Other (λ e. cc)

  abbrev swap_as : ℕ → Standing → ℕ → Visit
  swap_as x s y = swaps_kind f x (next_kind (kind_fields x) want s) y

  abbrev InWorkBy : ℕ → Standing → Taken → List Visit → Type 0
  InWorkBy x s t vs = Then (Only (swap_as x s x)) (λ ts. On x s t ts) vs

  otherwise : (x : ℕ) (s : Standing) (t : Taken) (vs : List Visit) → ((s ≡ stands.Counted) → ⊥) → TakesBy q f owner want x s t vs → InWorkBy x s t vs
  otherwise x stands.Counted t vs off p = absurd (off refl)
  otherwise x stands.Dead t vs off p = p
  otherwise x stands.Partial t vs off p = p
  otherwise x stands.Busy t vs off p = p
  otherwise x stands.Other t vs off p = p

  swap_fork : (x y : ℕ) (s : Standing) (newer : List Visit) → y ≢ x → Forks (newer ++ (swap_as x s x ∷ [])) (swap_as x s y ∷ [])
  swap_fork x y s newer off = fork_here _ (Kind f) (Cas x (kind_write (next_kind (kind_fields x) want s))) None x y newer [] (λ e. off (sym e))

  -- an exchange that was done, beside one that found another word
  done_lost : (x y : ℕ) (s : Standing) (t : Taken) (us : List Visit) → Stands s → y ≢ x → TakesBy q f owner want x s t us → Forks us (swap_as x s y ∷ [])
  done_lost x y _ t us as_counted off p = subst (λ z. Forks z (swap_as x stands.Counted y ∷ [])) (sym p) (swap_fork x y stands.Counted [] off)
  done_lost x y _ t us (as_other s other) off p =
      let w = otherwise x s t us other p in
      subst (λ z. Forks z (swap_as x s y ∷ [])) (sym (w.list ∙ ap (λ z. w.after ++ z) w.first)) (swap_fork x y s w.after off)

  done_both : (x : ℕ) (s : Standing) (t r : Taken) (us vs : List Visit) → Stands s → IsTakenBy want (kind_fields x) s t → IsTakenBy want (kind_fields x) s r →
      TakesBy q f owner want x s t us → TakesBy q f owner want x s r vs → Tie us vs (t ≡ r)
  done_both x _ t r us vs as_counted d e p k = inr (p ∙ sym k, d ∙ sym e)
  done_both x _ t r us vs (as_other s other) d e p k =
      then_tie _ _ _ _ us vs (Unit {0}) _ (otherwise x s t us other p) (otherwise x s r vs other k) (inr ((otherwise x s t us other p).first ∙ sym (otherwise x s r vs other k).first, tt))
      (λ z. on_tie x s t r (otherwise x s t us other p).after (otherwise x s r vs other k).after (went_by (kind_fields x) s t other d) (went_by (kind_fields x) s r other e) (otherwise x s t us other p).next (otherwise x s r vs other k).next)

  lost_both : (x y z : ℕ) → Tie (swap x y ∷ []) (swap x z ∷ []) (◌≡◌ {A = Result Taken Stop} (Err (Paused (Lost (number (sizes_of q.machine) (Kind f)) x y))) (Err (Paused (Lost (number (sizes_of q.machine) (Kind f)) x z))))
  lost_both x y z = tie_map _ _ _ _ (tie_one _ (Kind f) (Cas x (kind_write (next_kind (kind_fields x) want (stands_as x)))) None y z) (λ e. ap (λ k. Err (Paused (Lost (number (sizes_of q.machine) (Kind f)) x k))) e)

  free_barred : {A : Type 0} (x : ℕ) (e : Stop) → type_stop f want x ≡ None → type_stop f want x ≡ Some e → A
  free_barred x e free is = absurd (let t = sym free ∙ is in cc)

  some_stop : (e g : Stop) → ◌≡◌ {A = Option Stop} (Some e) (Some g) → e ≡ g
  some_stop e g s = cc

  type_rest_tie : (x : ℕ) (a b : Result Taken Stop) (us vs : List Visit) → TypeRest x a us → TypeRest x b vs → Tie us vs (a ≡ b)
  type_rest_tie x _ _ us vs (had t _ free d p) (had r _ also e k) = tie_map us vs _ _ (done_both x (stands_as x) t r us vs (stands_by (stands_as x)) d e p k) (λ z. ap (λ o. Ok o) z)
  type_rest_tie x _ _ us _ (had t _ free d p) (overtaken y also off) = inl (done_lost x y (stands_as x) t us (stands_by (stands_as x)) off p)
  type_rest_tie x _ _ us _ (had t _ free d p) (barred e is) = free_barred x e free is
  type_rest_tie x _ _ _ vs (overtaken y also off) (had t _ free d p) = inl (swapped vs (swap x y ∷ []) (done_lost x y (stands_as x) t vs (stands_by (stands_as x)) off p))
  type_rest_tie x _ _ _ _ (overtaken y free off) (overtaken z also out) = lost_both x y z
  type_rest_tie x _ _ _ _ (overtaken y free off) (barred e is) = free_barred x e free is
  type_rest_tie x _ _ _ _ (barred e is) (had t _ free d p) = free_barred x e free is
  type_rest_tie x _ _ _ _ (barred e is) (overtaken y free off) = free_barred x e free is
  type_rest_tie x _ _ _ _ (barred e is) (barred g also) = inr (refl, ap (λ z. Err z) (some_stop e g (sym is ∙ also)))

  typed_tie : (a b : Result Taken Stop) (us vs : List Visit) → Typed a us → Typed b vs → Tie us vs (a ≡ b)
  typed_tie a b _ _ (looked x rest l) (looked y more k) =
      tie_then (saw_kind f x ∷ []) (saw_kind f y ∷ []) rest more (x ≡ y) (a ≡ b) (tie_one _ (Kind f) Load None x y) (λ e s. type_rest_tie y a b rest more (subst (λ z. TypeRest z a rest) s l) k)

  pub types_tie : (a b : Result Taken Stop) (us vs : List Visit) → TypeBy q f owner want a us → TypeBy q f owner want b vs → Tie us vs (a ≡ b)
  types_tie a b us vs p k = typed_tie a b us vs (typed a us p) (typed b vs k)
