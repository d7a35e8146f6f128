-- Words of vCPUs that a call leaves as they are: an acquisition all but the first old word, and that one, too, where it is had.
use Rattle.std.proofs.Common.{◌≡◌, ◌≢◌, ℕ, ◌-◌, ◌==◌, ◌&&◌, if◌then◌else◌, Bool, true, false, List, [], ◌∷◌, Option, Some, None, Result, Ok, Err, refl, sym, ap, ◌∙◌, subst, nat_lt}
use Rattle.xp_words.specs.declared.place.Place.{Place}
use Rattle.xp_words.specs.declared.place.Place.TheVariants.{Cell, Clock, Kind, Life, Refs, Vcpu}
use Rattle.xp_words.specs.Entries.{demand_at}
use Rattle.xp_words.specs.KindWords.{kind_fields}
use Rattle.xp_words.specs.declared.entry.Demand.{Demand}
use Rattle.xp_words.specs.declared.entry.Demand.TheVariants as demands
use Rattle.xp_words.specs.declared.kind.KindWord.{KindWord}
use Rattle.xp_words.specs.declared.kind.PageType.{PageType}
use Rattle.xp_words.specs.Machine.{Machine}
use Rattle.xp_words.specs.declared.reply.Pause.TheVariants.{Busy, Flush}
use Rattle.xp_words.specs.declared.reply.Refusal.{Refusal}
use Rattle.xp_words.specs.declared.reply.Refusal.TheVariants as refusals
use Rattle.xp_words.specs.declared.reply.Stop.{Stop}
use Rattle.xp_words.specs.declared.reply.Stop.TheVariants.{Refused, Paused}
use Rattle.xp_board.specs.declared.step.Act.{Act}
use Rattle.xp_board.specs.declared.step.Mark.{Mark}
use Rattle.xp_board.specs.declared.step.StepKind.{StepKind}
use Rattle.xp_board.specs.Lists.{EachOf}
use Rattle.xp_board.specs.Readings.{is_live_word}
use Rattle.xp_board.specs.Told.{PortValue, is_telling, told_word}
use Rattle.step_maker.specs.Moves.{Came, Moves}
use Rattle.step_maker.specs.Plain.{Leaves, Words, change}
use Rattle.step_maker.specs.Twins.{Alike}
use Rattle.step_maker.specs.Visits.{Does, Visit, visits}
use Rattle.step_maker.proofs.Coming.{came_self, came_trans, moves_came}
use Rattle.step_maker.proofs.Telling.{came_telling, told_elsewhere}
use Rattle.step_maker.proofs.Visiting.{does_came}
use Rattle.frame_claims.proofs.Telling.{Alls, alls_nothing, alls_one, alls_then, told_ran, words_after}
use Rattle.frame_words.specs.Freeing.{FreesBy, PutBy}
use Rattle.frame_words.specs.Plain.{got, put, refer}
use Rattle.frame_types.specs.Found.{SharedBy, StoresKind}
use Rattle.frame_types.specs.Plain.{less_kept, taken, taken_by, set_kind}
use Rattle.frame_types.specs.Standing.{standing_of}
use Rattle.frame_types.specs.declared.standing.Standing.{Standing}
use Rattle.frame_types.specs.declared.standing.Standing.TheVariants as stands
use Rattle.frame_types.specs.declared.taking.Taken.{Taken}
use Rattle.frame_types.specs.declared.taking.Taken.TheVariants as types
use Rattle.kept_marks.specs.Marks.{KeptFor, LeftSo}
use Rattle.kept_marks.specs.Marks as marks
use Rattle.partial_state.specs.Levels.{level_type}
use Rattle.partial_state.specs.declared.stack.TableWork.{TableWork}
use Rattle.table_entries.specs.Acquiring.{Acquired, Advanced, Filled, GaveBack, GaveRef, GotRef, InnerLeft, Joined, LeftPartial, LeftWaiting, MadeLive, Named, OutermostLeft, ResumedEntry, TookEntry, TookOn, TookType, Unwound, WaitingLeft, Worked, around_left, asked, begun, completed, cut_off, due, filled, finished, fresh, counted, opened, recorded, settled, stopped, taken as taken_on, unasked, unfinished, unreferred, unsettled, untyped, waiting}
use Rattle.table_entries.specs.Plain.{AgainBy, AgainWhere, EntersPlainly, ResumesPlainly, TypesAgain, TypesPlainly, WaitsPlainly, is_own_of, left_dead, left_partial, left_shared, RefersPlainly, TypedPlainly}
use Rattle.table_entries.specs.declared.entries.Entered.{Entered}
use Rattle.table_entries.specs.declared.entries.Entered.TheVariants as entered
use Rattle.table_entries.specs.declared.resuming.Resumed.{Resumed}
use Rattle.table_entries.specs.declared.resuming.Resumed.TheVariants as again
use Rattle.table_entries.proofs.Shared.{gave_came, ref_came}
use Rattle.course_laws.proofs.Walking.{again_came, entry_came}
use Rattle.writable_pages.specs.Pages as pages
use Rattle.writable_pages.specs.Pages.{GotPage, TookPage}
use Rattle.entry_locks.specs.Plain.{with_lock}
use Rattle.entry_locks.specs.declared.locking.Locked.{Locked}
use Rattle.entry_locks.specs.declared.locking.Locked.TheVariants.{Table, Other}
use Rattle.mmu_update.specs.Course.{TriedLock}
use Rattle.flush_waits.specs.Waiting.{IsWait}
use Rattle.course_laws.specs.Courses.{IsFinal}
use Rattle.table_entries.specs.Acquiring.{GaveType}
use Rattle.xp_board.specs.declared.step.Act.TheVariants.{Add}
use Rattle.xp_board.specs.RefSteps.{one_down}
use Rattle.frame_words.specs.Plain.{stamp_now}
use Rattle.frame_types.specs.Plain.{dropped_plain}
use Rattle.entry_exchange.specs.Course as exchange
use Rattle.entry_exchange.specs.Course.{PutEntry}
use Rattle.solo_entries.proofs.Taking.{IsEnded}
use Rattle.solo_entries.proofs.Standing.{put_same}
use Rattle.xp_board.specs.Acts.{left_by}
use Rattle.kind_words.specs.Kinds.{partial_kind, dead_kind}
use Rattle.xp_board.proofs.PlaceTests.{is_same-other}

pub two_four : ◌≢◌ {A = ℕ} 2 4
two_four e = absurd cc

pub two_five : ◌≢◌ {A = ℕ} 2 5
two_five e = absurd cc

pub three_four : ◌≢◌ {A = ℕ} 3 4
three_four e = absurd cc

pub three_five : ◌≢◌ {A = ℕ} 3 5
three_five e = absurd cc

pub three_two : ◌≢◌ {A = ℕ} 3 2
three_two e = absurd cc

-- word k of vCPU s, which is no word of flushes
module _ (s k : ℕ) (four : k ≢ 4) (five : k ≢ 5) where
  -- what is told stays told, and that word is the same
  abbrev pub Same : Words → Words → Type 0
  Same m l = l (Vcpu s k) ≡ m (Vcpu s k)

  pub record Kept (v w : PortValue) : Type 0 where
    pub came : Came v w
    pub tells : is_telling w ≡ true
    pub same : told_word w (Vcpu s k) ≡ told_word v (Vcpu s k)

  abbrev pub Keeps : PortValue → PortValue → Type 0
  Keeps v w = is_telling v ≡ true → Kept v w

  pub keeps_self : (v : PortValue) → Keeps v v
  keeps_self v telling = record { came = came_self v; tells = telling; same = refl }

  pub keeps_then : {v u w : PortValue} → Keeps v u → Keeps u w → Keeps v w
  keeps_then {v} {u} {w} a b telling = let x = a telling in let y = b x.tells in record { came = came_trans v u w x.came y.came; tells = y.tells; same = y.same ∙ x.same }

  pub keeps_by : (v w : PortValue) → Came v w → (is_telling v ≡ true → Same (told_word v) (told_word w)) → Keeps v w
  keeps_by v w came same telling = record { came = came; tells = came_telling v w came ∙ telling; same = same telling }

  pub by_leaves : (w : PortValue) (m l : Words) → Leaves w l → Same m l → Same m (told_word w)
  by_leaves w m l leaves same = leaves (Vcpu s k) ∙ same

  pub by_alike : (w : PortValue) (m l : Words) → Alike (told_word w) l → Same m l → Same m (told_word w)
  by_alike w m l alike same = alike (Vcpu s k) four five ∙ same

  pub moves_keeps : (v w : PortValue) (p : Place) (a : Act) (kind : StepKind) (mark : Option Mark) (found : ℕ) → Moves v w p a kind mark found → Vcpu s k ≢ p → Keeps v w
  moves_keeps v w p a kind mark found step off = keeps_by v w (moves_came v w p a kind mark found step) (λ telling. told_elsewhere v w p a kind mark found step (Vcpu s k) off)

  -- ---- lists of visits
  abbrev pub Elsewhere : Visit → Type 0
  Elsewhere x = Vcpu s k ≢ x.place

  after_same : (m : Words) (vs : List Visit) → EachOf Elsewhere vs → Same m (words_after m vs)
  unfolding EachOf
  after_same m [] all = refl
  after_same m (x ∷ xs) all = changed_at x.act x.place (words_after m xs) all.0 ∙ after_same m xs all.1
    where
      changed_at : (a : Act) (p : Place) (l : Words) → Vcpu s k ≢ p → change a p l (Vcpu s k) ≡ l (Vcpu s k)
      changed_at a p l off = ap (λ b. if b then left_by a (l p) else l (Vcpu s k)) (is_same-other (Vcpu s k) p off)

  -- ---- references
  pub ref_keeps : (v w : PortValue) (f owner : ℕ) (r : Result ℕ Stop) → GotRef v w f owner r → Keeps v w
  ref_keeps v w f owner (Ok g) a = keeps_by v w (ref_came v w f owner (Ok g) a) (λ telling. by_leaves w (told_word v) (got f (told_word v)) (a.plain telling).1 refl)
  ref_keeps v w f owner (Err (Refused x)) a = keeps_by v w (ref_came v w f owner (Err (Refused x)) a) (λ telling. (a.plain telling).1 (Vcpu s k))
  ref_keeps v w f owner (Err (Paused x)) a = λ telling. absurd (a.plain telling)

  pub gave_keeps : (v w : PortValue) (f : ℕ) → GaveRef v w f → Keeps v w
  gave_keeps v w f a = keeps_by v w (gave_came v w f a) (λ telling. by_leaves w (told_word v) (put f (told_word v)) (a.plain telling) (put_same f (told_word v) (Vcpu s k) refl))

  -- ---- types
  pub less_by : (b : Bool) (f : ℕ) (m : Words) → Same m (if b then put f m else m)
  less_by true f m = put_same f m (Vcpu s k) refl
  less_by false f m = refl

  less_same : (f : ℕ) (j : KindWord) (z : Standing) (m : Words) → Same m (less_kept f j z m)
  less_same f j stands.Partial m = less_by j.kept f m
  less_same f j stands.Counted m = refl
  less_same f j stands.Dead m = refl
  less_same f j stands.Other m = refl
  less_same f j stands.Busy m = refl

  taken_same_by : (f : ℕ) (t : PageType) (j : KindWord) (z : Standing) (way : Taken) (m : Words) → Same m (taken_by f t j z way m)
  taken_same_by f t j stands.Counted way m = refl
  taken_same_by f t j stands.Partial types.Counted m = less_same f j stands.Partial m
  taken_same_by f t j stands.Partial (types.InWork progress own) m = less_same f j stands.Partial m
  taken_same_by f t j stands.Partial (types.Waiting own stamp stop) m = less_same f j stands.Partial m
  taken_same_by f t j stands.Dead types.Counted m = refl
  taken_same_by f t j stands.Dead (types.InWork progress own) m = refl
  taken_same_by f t j stands.Dead (types.Waiting own stamp stop) m = refl
  taken_same_by f t j stands.Other types.Counted m = refl
  taken_same_by f t j stands.Other (types.InWork progress own) m = refl
  taken_same_by f t j stands.Other (types.Waiting own stamp stop) m = refl
  taken_same_by f t j stands.Busy types.Counted m = refl
  taken_same_by f t j stands.Busy (types.InWork progress own) m = refl
  taken_same_by f t j stands.Busy (types.Waiting own stamp stop) m = refl

  taken_same : (f : ℕ) (t : PageType) (way : Taken) (m : Words) → Same m (taken f t way m)
  taken_same f t way m = taken_same_by f t (kind_fields (m (Kind f))) (standing_of (kind_fields (m (Kind f))) t) way m

  pub type_keeps : (v w : PortValue) (f owner level : ℕ) (r : Result Taken Stop) → TookType v w f owner level r → Keeps v w
  type_keeps v w f owner level (Ok way) a = keeps_by v w (does_came v w _ a.found) (λ telling. by_alike w (told_word v) (taken f (level_type level) way (told_word v)) (a.plain telling).2 (taken_same f (level_type level) way (told_word v)))
  type_keeps v w f owner level (Err e) a = keeps_by v w (does_came v w _ a.found) (λ telling. (a.plain telling).1 (Vcpu s k))

  -- ---- entries
  partial_same : (g : ℕ) (t : PageType) (m : Words) → Same m (left_partial g t m)
  partial_same g t m = less_same g (kind_fields (m (Kind g))) (standing_of (kind_fields (m (Kind g))) t) m

  shared_same : (g : ℕ) (t : PageType) (m : Words) → Same m (left_shared g t m)
  shared_same g t m = put_same g (set_kind g (partial_kind t false true 0 0) m) (Vcpu s k) refl

  dead_same : (g : ℕ) (t : PageType) (m : Words) → Same m (left_dead g t m)
  dead_same g t m =
      put_same g (set_kind g (dead_kind t true 0) (less_kept g (kind_fields (m (Kind g))) (standing_of (kind_fields (m (Kind g))) t) m)) (Vcpu s k) refl
      ∙ less_same g (kind_fields (m (Kind g))) (standing_of (kind_fields (m (Kind g))) t) m

  waits_same : (w : PortValue) (m : Words) (g : ℕ) (t : PageType) (b : Bool) → WaitsPlainly w m g t b → Same m (told_word w)
  waits_same w m g t true a = by_alike w m (left_dead g t m) a.1 (dead_same g t m)
  waits_same w m g t false a = by_alike w m (left_shared g t m) a (shared_same g t m)

  back_same : (w : PortValue) (m : Words) (g : ℕ) → Leaves w (put g m) → Same m (told_word w)
  back_same w m g a = by_leaves w m (put g m) a (put_same g m (Vcpu s k) refl)

  types_same : (w : PortValue) (m : Words) (g : ℕ) (t : PageType) (r : Result Entered Stop) → TypesPlainly w m g t r → Same m (told_word w)
  types_same w m g t (Ok entered.Recorded) a = by_alike w m (taken g t types.Counted m) a.1 (taken_same g t types.Counted m)
  types_same w m g t (Ok (entered.Opened f progress own)) a = by_alike w m (taken g t (types.InWork progress own) m) a.2 (taken_same g t (types.InWork progress own) m)
  types_same w m g t (Ok (entered.Unsettled stop)) a = by_alike w m (left_partial g t m) a.3 (partial_same g t m)
  types_same w m g t (Err (Refused (refusals.Clock x))) a = waits_same w m g t (is_own_of m g t) a.1
  types_same w m g t (Err (Paused (Flush u y x))) a = by_alike w m (left_shared g t m) a.2 (shared_same g t m)
  types_same w m g t (Err (Refused _)) a = back_same w m g a.1
  types_same w m g t (Err (Paused _)) a = back_same w m g a.1

  refers_same : (w : PortValue) (m l : Words) (r : Result Entered Stop) (o : Option Refusal) → RefersPlainly w m r o l → Same m l → Same m (told_word w)
  refers_same w m l r (Some x) a same = a.1 (Vcpu s k)
  refers_same w m l r None a same = by_leaves w m l a.1 same

  typed_same : (w : PortValue) (m : Words) (g : ℕ) (t : PageType) (r : Result Entered Stop) (o : Option Refusal) → TypedPlainly w m g t r o → Same m (told_word w)
  typed_same w m g t r (Some x) a = a.1 (Vcpu s k)
  typed_same w m g t r None a = types_same w (got g m) g t r a

  enters_same : (n : Machine) (w : PortValue) (m : Words) (f i owner : ℕ) (r : Result Entered Stop) (d : Demand) → EntersPlainly n w m f i owner r d → Same m (told_word w)
  enters_same n w m f i owner r demands.Nothing a = a.1 (Vcpu s k)
  enters_same n w m f i owner r demands.Bad a = a.1 (Vcpu s k)
  enters_same n w m f i owner r (demands.Read g) a = refers_same w m (got g m) r (refer n owner g (m (Refs g))) a refl
  enters_same n w m f i owner r (demands.Typed g t) a = typed_same w m g t r (refer n owner g (m (Refs g))) a

  pub entry_keeps : (v w : PortValue) (owner : ℕ) (t : TableWork) (r : Result Entered Stop) → TookEntry v w owner t r → Keeps v w
  entry_keeps v w owner t r a =
      keeps_by v w (entry_came v w owner t r a)
      (λ telling. enters_same v.post.machine w (told_word v) t.frame t.done owner r (demand_at (level_type t.level) t.done (told_word v (Cell t.frame t.done))) (a.plain telling))

  -- the last recorded one
  types_again : (w : PortValue) (m : Words) (g : ℕ) (t : PageType) (r : Result Resumed Stop) → TypesAgain w m g t r → Same m (told_word w)
  types_again w m g t (Ok again.Settled) a = absurd a
  types_again w m g t (Ok (again.Taken f)) a = by_alike w m (taken g t types.Counted m) a.2 (taken_same g t types.Counted m)
  types_again w m g t (Ok (again.Opened f progress)) a = by_alike w m (taken g t (types.InWork progress false) m) a.2 (taken_same g t (types.InWork progress false) m)
  types_again w m g t (Ok (again.Waiting f stamp stop)) a = by_alike w m (taken g t (types.Waiting false stamp stop) m) a.2 (taken_same g t (types.Waiting false stamp stop) m)
  types_again w m g t (Err e) a = back_same w m g a.1

  again_by : (w : PortValue) (m : Words) (g : ℕ) (t : PageType) (r : Result Resumed Stop) (o : Option Refusal) → AgainBy w m g t r o → Same m (told_word w)
  again_by w m g t r (Some x) a = a.1 (Vcpu s k)
  again_by w m g t r None a = types_again w (got g m) g t r a

  again_where : (n : Machine) (w : PortValue) (m : Words) (g : ℕ) (t : PageType) (owner : ℕ) (r : Result Resumed Stop) (b : Bool) → AgainWhere n w m g t owner r b → Same m (told_word w)
  again_where n w m g t owner r true a = a.1 (Vcpu s k)
  again_where n w m g t owner r false a = again_by w m g t r (refer n owner g (m (Refs g))) a

  resumes_same : (n : Machine) (w : PortValue) (m : Words) (owner : ℕ) (r : Result Resumed Stop) (d : Demand) → ResumesPlainly n w m owner r d → Same m (told_word w)
  resumes_same n w m owner r demands.Nothing a = a.1 (Vcpu s k)
  resumes_same n w m owner r demands.Bad a = a.1 (Vcpu s k)
  resumes_same n w m owner r (demands.Read g) a = a.1 (Vcpu s k)
  resumes_same n w m owner r (demands.Typed g t) a = again_where n w m g t owner r (nat_lt g n.frames && is_live_word (m (Kind g))) a

  pub again_keeps : (v w : PortValue) (owner : ℕ) (t : TableWork) (r : Result Resumed Stop) → ResumedEntry v w owner t r → Keeps v w
  again_keeps v w owner t r a =
      keeps_by v w (again_came v w owner t r a)
      (λ telling. resumes_same v.post.machine w (told_word v) owner r (demand_at (level_type t.level) (t.done - 1) (told_word v (Cell t.frame (t.done - 1)))) (a.plain telling))

  -- ---- tables
  pub back_keeps : (v w : PortValue) (f : ℕ) → GaveBack v w f → Keeps v w
  back_keeps v w f a = keeps_then (moves_keeps v a.between (Kind f) _ _ _ _ a.lowers.lowers.step (λ e. cc)) (gave_keeps a.between w f a.puts)

  live_keeps : (v w : PortValue) (t : TableWork) → MadeLive v w t → Keeps v w
  live_keeps v w t a = moves_keeps v w (Kind t.frame) _ _ _ _ a.1 (λ e. cc)

  joined_keeps : (v w : PortValue) (t outer : TableWork) (b : Bool) → Joined v w t outer b → Keeps v w
  joined_keeps v w t outer true a = back_keeps v w t.frame a
  joined_keeps v w t outer false a = moves_keeps v w Clock _ _ _ _ a.1 (λ e. cc)

  -- a frame that waits
  pub stores_apart : (f : ℕ) (j : KindWord) → Alls Elsewhere (StoresKind f j)
  stores_apart f j vs a = alls_one Elsewhere _ (λ e. cc) vs a.1

  frees_apart : (f : ℕ) (last : Option ℕ) → Alls Elsewhere (FreesBy f last)
  unfolding EachOf
  frees_apart f (Some owner) vs (clock, b, y, z, is) = subst (EachOf Elsewhere) (sym is) ((λ e. cc), ((λ e. cc), ((λ e. cc), ((λ e. cc), tt))))
  frees_apart f None vs is = alls_nothing Elsewhere vs is

  pub puts_apart : (f : ℕ) → Alls Elsewhere (PutBy f)
  puts_apart f vs a = alls_then Elsewhere _ _ (alls_one Elsewhere _ (λ e. cc)) (frees_apart f a.last) vs a.steps

  pub does_keeps : (v w : PortValue) (P : List Visit → Type 0) → Alls Elsewhere P → Does v w P → Keeps v w
  unfolding Does
  does_keeps v w P all a =
      keeps_by v w (does_came v w P a) (λ telling. by_leaves w (told_word v) (words_after (told_word v) (visits a.0)) (told_ran v w a.0 a.1 telling).1 (after_same (told_word v) (visits a.0) (all (visits a.0) a.2)))

  shared_apart : (f : ℕ) (t : PageType) (stamp : ℕ) → Alls Elsewhere (SharedBy f t stamp)
  shared_apart f t stamp = alls_then Elsewhere (StoresKind f (partial_kind t false true 0 stamp)) (PutBy f) (stores_apart f (partial_kind t false true 0 stamp)) (puts_apart f)

  waiting_keeps : (v w : PortValue) (f level stamp : ℕ) → LeftWaiting v w f level stamp → Keeps v w
  waiting_keeps v w f level stamp a = does_keeps v w (λ vs. SharedBy f (level_type level) stamp vs) (shared_apart f (level_type level) stamp) a.found

  -- ---- until they are full
  on_keeps : (owner : ℕ) (v : PortValue) (ts : List TableWork) (w : PortValue) (us : List TableWork) (r : Result Bool Stop) → TookOn owner v ts w us r → Keeps v w
  on_keeps owner _ _ _ _ _ (fresh v t ts none) = keeps_self v
  on_keeps owner _ _ _ _ _ (settled v w t ts some a) = again_keeps v w owner t _ a
  on_keeps owner _ _ _ _ _ (taken_on v u w t ts g some a b) = keeps_then (again_keeps v u owner t _ a) (back_keeps u w g b)
  on_keeps owner _ _ _ _ _ (opened v u w t ts us g progress answer some a b) = keeps_then (again_keeps v u owner t _ a) (on_keeps owner u _ w us answer b)
  on_keeps owner _ _ _ _ _ (waiting v u w t ts g stamp stop some a b) = keeps_then (again_keeps v u owner t _ a) (waiting_keeps u w g (t.level - 1) stamp b)
  on_keeps owner _ _ _ _ _ (stopped v w t ts stop some a) = again_keeps v w owner t _ a

  advanced_keeps : (owner : ℕ) (v : PortValue) (ts : List TableWork) (w : PortValue) (us : List TableWork) (r : Result Bool Stop) → Advanced owner v ts w us r → Keeps v w
  advanced_keeps owner _ _ _ _ _ (recorded v w t ts few a) = entry_keeps v w owner t _ a
  advanced_keeps owner _ _ _ _ _ (opened v u w t ts us g progress own done few a b) = keeps_then (entry_keeps v u owner t _ a) (on_keeps owner u _ w us (Ok done) b)
  advanced_keeps owner _ _ _ _ _ (cut_off v u w t ts us g progress own stop few a b) = keeps_then (entry_keeps v u owner t _ a) (on_keeps owner u _ w us (Err stop) b)
  advanced_keeps owner _ _ _ _ _ (unsettled v w t ts stop few a) = entry_keeps v w owner t _ a
  advanced_keeps owner _ _ _ _ _ (stopped v w t ts stop few a) = entry_keeps v w owner t _ a
  advanced_keeps owner _ _ _ _ _ (completed v u w t outer ts full a b) = keeps_then (live_keeps v u t a) (joined_keeps u w t outer t.recorded b)

  filled_keeps : (owner : ℕ) (v : PortValue) (ts : List TableWork) (before : List Bool) (w : PortValue) (us : List TableWork) (answers : List Bool) (r : Result (Unit {0}) Stop) → Filled owner v ts before w us answers r → Keeps v w
  filled_keeps owner v ts before _ _ _ _ begun = keeps_self v
  filled_keeps owner v ts before _ _ _ _ (unasked u w us xs done answers a b off) = keeps_then (filled_keeps owner v ts before u us answers (Ok tt) a) (advanced_keeps owner u us w xs (Ok done) b)
  filled_keeps owner v ts before _ _ _ _ (asked u w us xs answers a b on) = keeps_then (filled_keeps owner v ts before u us answers (Ok tt) a) (advanced_keeps owner u us w xs (Ok true) b)
  filled_keeps owner v ts before _ _ _ _ (due u w us xs answers a b on) = keeps_then (filled_keeps owner v ts before u us answers (Ok tt) a) (advanced_keeps owner u us w xs (Ok true) b)
  filled_keeps owner v ts before _ _ _ _ (stopped u w us xs answers stop a b) = keeps_then (filled_keeps owner v ts before u us answers (Ok tt) a) (advanced_keeps owner u us w xs (Err stop) b)

  worked_keeps : (owner : ℕ) (v : PortValue) (t : TableWork) (w : PortValue) (us : List TableWork) (answers : List Bool) (r : Result (Unit {0}) Stop) → Worked owner v t w us answers r → Keeps v w
  worked_keeps owner v t _ _ _ _ (cut_off w us stop a) = on_keeps owner v (t ∷ []) w us (Err stop) a
  worked_keeps owner v t _ _ _ _ (due w us a on) = on_keeps owner v (t ∷ []) w us (Ok true) a
  worked_keeps owner v t _ _ _ _ (filled u w us xs done answers answer a b) = keeps_then (on_keeps owner v (t ∷ []) u us (Ok done) a) (filled_keeps owner u us _ w xs answers answer b)

  -- ---- it is had
  abbrev HadKeeps : PortValue → PortValue → Result ℕ Stop → Type 0
  HadKeeps v w (Ok g) = Keeps v w
  HadKeeps v w (Err e) = Unit {0}

  had_by : (v : PortValue) (f owner level : ℕ) (w : PortValue) (answers : List Bool) (r : Result ℕ Stop) → Acquired v f owner level w answers r → HadKeeps v w r
  had_by v f owner level _ _ _ (unreferred w stop ref) = tt
  had_by v f owner level _ _ _ (untyped u x w stop ref type back) = tt
  had_by v f owner level _ _ _ (counted u w ref type) = keeps_then (ref_keeps v u f owner _ ref) (type_keeps u w f owner level _ type)
  had_by v f owner level _ _ _ (waiting u x w own stamp stop ref type left) = tt
  had_by v f owner level _ _ _ (unfinished u x y w progress own us answers stop ref type work left) = tt
  had_by v f owner level _ _ _ (finished u x y w progress own t answers ref type work full made) =
      keeps_then (ref_keeps v u f owner _ ref) (keeps_then (type_keeps u x f owner level _ type) (keeps_then (worked_keeps owner x _ y _ answers (Ok tt) work) (live_keeps y w t made)))

  pub had_keeps : (v : PortValue) (f owner level : ℕ) (w : PortValue) (answers : List Bool) (g : ℕ) → Acquired v f owner level w answers (Ok g) → Keeps v w
  had_keeps v f owner level w answers g a = had_by v f owner level w answers (Ok g) a

  -- ---- ordinary memory, that is had or refused for what words say
  pub page_keeps : (v w : PortValue) (f owner : ℕ) (r : Result (Unit {0}) Stop) → TookPage v f owner w r → IsEnded r → Keeps v w
  page_keeps v w f owner _ (pages.counted _ type) ended = type_keeps v w f owner 0 _ type
  page_keeps v w f owner _ (pages.untyped u _ stop type back) ended = keeps_then (type_keeps v u f owner 0 _ type) (gave_keeps u w f back)
  page_keeps v w f owner _ (pages.waiting u _ own stamp stop type left) ended = absurd (never stop type.waits.0 ended)
    where
      never : (e : Stop) → IsWait e → IsFinal e → ⊥
      never (Refused (refusals.Clock x)) wait final = final
      never (Refused _) wait final = wait
      never (Paused x) wait final = final

  pub got_page_keeps : (v w : PortValue) (f owner : ℕ) (r : Result ℕ Stop) → GotPage v f owner w r → IsEnded r → Keeps v w
  got_page_keeps v w f owner _ (pages.unreferred _ stop ref) ended = ref_keeps v w f owner _ ref
  got_page_keeps v w f owner _ (pages.refused u _ stop ref took) ended = keeps_then (ref_keeps v u f owner _ ref) (page_keeps u w f owner (Err stop) took ended)
  got_page_keeps v w f owner _ (pages.had u _ ref took) ended = keeps_then (ref_keeps v u f owner _ ref) (page_keeps u w f owner (Ok tt) took tt)

  pub dropped_by : (b : Bool) (f : ℕ) (j : KindWord) (m : Words) → Same m (if b then set_kind f j (change (Add one_down) (Kind f) m) else change (Add one_down) (Kind f) m)
  dropped_by true f j m = refl
  dropped_by false f j m = refl

  pub gave_type_keeps : (v w : PortValue) (f : ℕ) (t : PageType) → GaveType v w f t → Keeps v w
  gave_type_keeps v w f t a =
      let m = told_word v in
      let b = (kind_fields (m (Kind f))).number == 1 in
      let j = dead_kind t false (stamp_now m) in
      keeps_by v w (does_came v w _ a.found)
      (λ telling. by_leaves w m (dropped_plain f t m) (a.plain telling) (put_same f (if b then set_kind f j (change (Add one_down) (Kind f) m) else change (Add one_down) (Kind f) m) (Vcpu s k) refl ∙ dropped_by b f j m))

  -- a lock that is tried
  pub locked_keeps : (v w : PortValue) (f owner : ℕ) (r : Result Locked Stop) → TriedLock v w f owner r → Keeps v w
  locked_keeps v w f owner (Ok (Table level found)) a = keeps_by v w (does_came v w _ a.found) (λ telling. by_leaves w (told_word v) (with_lock f (told_word v)) (a.plain telling).3 refl)
  locked_keeps v w f owner (Ok (Other found)) a = keeps_by v w (does_came v w _ a.found) (λ telling. (a.plain telling).3 (Vcpu s k))
  locked_keeps v w f owner (Err (Paused (Busy g found))) a = keeps_by v w (does_came v w _ a.found) (λ telling. (a.plain telling).3 (Vcpu s k))
  locked_keeps v w f owner (Err (Paused _)) a = λ telling. absurd (a.plain telling)
  locked_keeps v w f owner (Err (Refused x)) a = λ telling. absurd (a.plain telling)

  -- an entry that is put
  pub puts_keeps : (v w : PortValue) (f i seen new : ℕ) (keep : Bool) (r : Result ℕ Stop) → PutEntry v w f i seen new keep r → Keeps v w
  puts_keeps v w f i seen new _ _ (exchange.stored old step) = moves_keeps v w (Cell f i) _ _ _ _ step (λ e. cc)
  puts_keeps v w f i seen new _ _ (exchange.exchanged step) = moves_keeps v w (Cell f i) _ _ _ _ step (λ e. cc)
  puts_keeps v w f i seen new _ _ (exchange.lost found off step) = moves_keeps v w (Cell f i) _ _ _ _ step (λ e. cc)

  -- ---- it is left, and the word is not the first old one
  module _ (two : k ≢ 2) where
    pub named_keeps : (v w : PortValue) (f : ℕ) → Named v w f → Keeps v w
    named_keeps v w f a = moves_keeps v w (Vcpu v.post.vcpu 2) _ _ _ _ a (λ e. let j : k ≡ 2 = cc in two j)

    partial_keeps : (v w : PortValue) (t : TableWork) → LeftPartial v w t → Keeps v w
    partial_keeps v w t a = moves_keeps v w (Kind t.frame) _ _ _ _ a.1 (λ e. cc)

    so_keeps : (v w : PortValue) (f : ℕ) (j : KindWord) → LeftSo v w f j → Keeps v w
    so_keeps v w f j a = moves_keeps v w (Kind f) _ _ _ _ a.1 (λ e. cc)

    pub kept_keeps : (v w : PortValue) (f : ℕ) (j : KindWord) (owner : ℕ) → KeptFor v w f j owner → Keeps v w
    kept_keeps v w f j owner (marks.own same a) = so_keeps v w f j a
    kept_keeps v w f j owner (marks.alive u off a look) = keeps_then (so_keeps v u f j a) (moves_keeps u w (Life owner) _ _ _ _ look (λ e. cc))
    kept_keeps v w f j owner (marks.dying u x y life off a look some back names) =
        keeps_then (so_keeps v u f j a) (keeps_then (moves_keeps u x (Life owner) _ _ _ _ look (λ e. cc)) (keeps_then (moves_keeps x y (Kind f) _ _ _ _ back (λ e. cc))
        (moves_keeps y w (Vcpu v.post.vcpu 2) _ _ _ _ names (λ e. let i : k ≡ 2 = cc in two i))))
    kept_keeps v w f j owner (marks.taken u x life found off a look some back other) =
        keeps_then (so_keeps v u f j a) (keeps_then (moves_keeps u x (Life owner) _ _ _ _ look (λ e. cc)) (moves_keeps x w (Kind f) _ _ _ _ back (λ e. cc)))

    outermost_keeps : (v w : PortValue) (owner : ℕ) (t : TableWork) (own kept : Bool) → OutermostLeft v w owner t own kept → Keeps v w
    outermost_keeps v w owner t true true a = kept_keeps v w t.frame _ owner a
    outermost_keeps v w owner t true false a = keeps_then (partial_keeps v a.0 t a.1) (named_keeps a.0 w t.frame a.2)
    outermost_keeps v w owner t false kept a = keeps_then (partial_keeps v a.0 t a.1) (gave_keeps a.0 w t.frame a.2)

    inner_keeps : (v w : PortValue) (t outer : TableWork) (own : Bool) → InnerLeft v w t outer own → Keeps v w
    inner_keeps v w t outer true a = let l = a.1 in keeps_then (partial_keeps v l.0 t l.1) (moves_keeps l.0 w Clock _ _ _ _ l.2.1 (λ e. cc))
    inner_keeps v w t outer false a = keeps_then (partial_keeps v a.0 t a.1) (gave_keeps a.0 w t.frame a.2)

    unwound_keeps : (v : PortValue) (owner : ℕ) (ts : List TableWork) (kept : Bool) (w : PortValue) → Unwound v owner ts kept w → Keeps v w
    unwound_keeps v owner [] kept w a = subst (Keeps v) (sym a) (keeps_self v)
    unwound_keeps v owner (t ∷ []) kept w a = outermost_keeps v w owner t t.own kept a
    unwound_keeps v owner (t ∷ outer ∷ ts) kept w a = keeps_then (inner_keeps v a.0 t outer t.own a.1) (unwound_keeps a.0 owner (around_left t outer ∷ ts) kept w a.2)

    left_keeps : (v w : PortValue) (f level owner stamp : ℕ) (own kept : Bool) → WaitingLeft v w f level owner stamp own kept → Keeps v w
    left_keeps v w f level owner stamp true true a = kept_keeps v w f _ owner a
    left_keeps v w f level owner stamp true false a = keeps_then (does_keeps v a.0 _ (stores_apart f _) a.1) (named_keeps a.0 w f a.2)
    left_keeps v w f level owner stamp false kept a = does_keeps v w (λ vs. SharedBy f (level_type level) stamp vs) (shared_apart f (level_type level) stamp) a

    pub acquired_keeps : (v : PortValue) (f owner level : ℕ) (w : PortValue) (answers : List Bool) (r : Result ℕ Stop) → Acquired v f owner level w answers r → Keeps v w
    acquired_keeps v f owner level _ _ _ (unreferred w stop ref) = ref_keeps v w f owner _ ref
    acquired_keeps v f owner level _ _ _ (untyped u x w stop ref type back) = keeps_then (ref_keeps v u f owner _ ref) (keeps_then (type_keeps u x f owner level _ type) (gave_keeps x w f back))
    acquired_keeps v f owner level _ _ _ (counted u w ref type) = keeps_then (ref_keeps v u f owner _ ref) (type_keeps u w f owner level _ type)
    acquired_keeps v f owner level _ _ _ (waiting u x w own stamp stop ref type left) =
        keeps_then (ref_keeps v u f owner _ ref) (keeps_then (type_keeps u x f owner level _ type) (left_keeps x w f level owner stamp own _ left))
    acquired_keeps v f owner level _ _ _ (unfinished u x y w progress own us answers stop ref type work left) =
        keeps_then (ref_keeps v u f owner _ ref) (keeps_then (type_keeps u x f owner level _ type) (keeps_then (worked_keeps owner x _ y us answers (Err stop) work) (unwound_keeps y owner us _ w left)))
    acquired_keeps v f owner level _ _ _ (finished u x y w progress own t answers ref type work full made) =
        keeps_then (ref_keeps v u f owner _ ref) (keeps_then (type_keeps u x f owner level _ type) (keeps_then (worked_keeps owner x _ y _ answers (Ok tt) work) (live_keeps y w t made)))

-- the two old words
abbrev pub KeepsFirst : PortValue → PortValue → Type 0
KeepsFirst v w = Keeps v.post.vcpu 2 two_four two_five v w

abbrev pub KeepsSecond : PortValue → PortValue → Type 0
KeepsSecond v w = Keeps v.post.vcpu 3 three_four three_five v w
