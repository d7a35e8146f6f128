-- Single calls of an acquisition are determined: references and types that are taken and given back, and frames that are left.
use Rattle.std.proofs.Common.{◌≡◌, ◌≢◌, ℕ, ◌+◌, ◌<◌, Bool, true, false, List, [], ◌∷◌, ◌++◌, length, Option, Some, None, Result, Ok, Err, refl, ap, ◌∙◌, subst}
use Rattle.xp_words.specs.KindWords.{kind_write}
use Rattle.xp_words.specs.declared.kind.KindWord.{KindWord}
use Rattle.xp_words.specs.declared.kind.PageType.{PageType}
use Rattle.xp_words.specs.declared.place.Place.TheVariants.{Clock, Kind, Life}
use Rattle.xp_words.specs.declared.reply.Pause.TheVariants.{Lost}
use Rattle.xp_words.specs.declared.reply.Stop.{Stop}
use Rattle.xp_words.specs.declared.reply.Stop.TheVariants.{Paused}
use Rattle.xp_board.specs.declared.step.Act.TheVariants.{Add, Load, Store}
use Rattle.xp_board.specs.declared.step.Mark.TheVariants.{Record}
use Rattle.xp_board.specs.declared.step.StepKind.TheVariants as kinds
use Rattle.xp_board.specs.RefSteps.{one_down}
use Rattle.xp_board.specs.Readings.{domain_of}
use Rattle.xp_board.specs.Told.{Post, PortValue}
use Rattle.step_maker.specs.Moves.{Moment, Moves, Ran}
use Rattle.step_maker.specs.Visits.{Does, Only, Then, Visit, visits}
use Rattle.step_maker.proofs.Coming.{ran_post}
use Rattle.step_maker.proofs.Visiting.{does_came}
use Rattle.kind_words.specs.Kinds.{live_kind, partial_kind}
use Rattle.table_words.specs.OldWords.{old_place}
use Rattle.table_words.specs.declared.old_words.OldWord.TheVariants.{First}
use Rattle.frame_types.specs.Found.{DropsPlain, SharedBy, StopsBy, TakesFound, TypeBy}
use Rattle.frame_types.specs.Lowering.{DropsType}
use Rattle.frame_types.specs.declared.taking.Taken.{Taken}
use Rattle.kept_marks.specs.Marks as marks
use Rattle.kept_marks.specs.Marks.{IsForeign, KeptFor, LeftSo, TakesBack}
use Rattle.partial_state.specs.Levels.{level_type}
use Rattle.partial_state.specs.declared.stack.TableWork.{TableWork}
use Rattle.table_entries.specs.Acquiring.{GaveBack, GaveRef, GaveType, GotRef, InnerLeft, Joined, LeftPartial, LeftWaiting, MadeLive, Named, OutermostLeft, TookType, Unwound, WaitingLeft, around_left, type_counts}
use Rattle.determined_laws.specs.Forks.{Agree}
use Rattle.determined_laws.proofs.Courses.{alike_does, alike_map}
use Rattle.determined_laws.proofs.References.{gets_tie, put_tie}
use Rattle.determined_laws.proofs.Types.{drops_tie, shared_tie, store_tie, types_tie}
use Rattle.determined_tables.proofs.Chains.{Chain, Choice, Ends, IsFixed, IsSure, fixed_by, fixed_choice, fixed_ends, fixed_move, fixed_then, left, right, sure_as, sure_at, sure_by, sure_does, sure_some, sure_two}

-- ---- a reference is taken: the frame, or why not
abbrev pub ref_answer : ℕ → Option Stop → Result ℕ Stop
ref_answer f None = Ok f
ref_answer f (Some e) = Err e

pub ref_same : (f : ℕ) (o p : Option Stop) → Agree {A = ℕ} (ref_answer f o) (ref_answer f p) → o ≡ p
ref_same f None None e = refl
ref_same f None (Some x) e = absurd e
ref_same f (Some x) None e = absurd e
ref_same f (Some x) (Some y) e = ap (λ z. Some z) e

pub got_fixed : (v : PortValue) (f owner : ℕ) → IsFixed v (λ u o. GotRef v u f owner (ref_answer f o))
got_fixed v f owner =
    record {
      came = λ u o a. does_came v u _ a.found;
      alike = λ u x o p a b. alike_map (alike_does a.found b.found (λ us vs r s. gets_tie {A = ℕ} v.post.machine f owner (ref_answer f o) (ref_answer f p) us vs r s)) (ref_same f o p);
    }

-- ---- given back
pub gave_sure : (v : PortValue) (f : ℕ) → IsSure v (λ w. GaveRef v w f)
gave_sure v f = sure_by (λ w. GaveRef v w f) (λ w p. does_came v w _ p.found) (λ w x p q. alike_does p.found q.found (put_tie f))

pub drops_sure : (v : PortValue) (f : ℕ) (kind : PageType) → IsSure v (λ w. DropsPlain v w f kind)
drops_sure v f kind = sure_does v _ (drops_tie f kind)

pub gave_type_sure : (v : PortValue) (f : ℕ) (kind : PageType) → IsSure v (λ w. GaveType v w f kind)
gave_type_sure v f kind = sure_as (λ w p. p.found) (drops_sure v f kind)

-- ---- a type is taken
-- whoever made a step is a vCPU of the machine
pub made_real : (v w : PortValue) (P : List Visit → Type 0) → Does v w P → (P [] → ⊥) → v.post.vcpu < length v.post.machine.vcpu_domain
unfolding Does
made_real v w P a some = by a.0 a.1 a.2
  where
    by : (ms : List Moment) → Ran v ms w → P (visits ms) → v.post.vcpu < length v.post.machine.vcpu_domain
    by [] r p = absurd (some p)
    by (m ∷ ms) r p = subst (λ (z : Post). z.vcpu < length z.machine.vcpu_domain) (ran_post v r.0 ms r.1) r.2.moves.finds.real

pub none_two : {A : Type 0} (xs : List A) (x : A) → [] ≡ xs ++ (x ∷ []) → ⊥
none_two [] x e = absurd cc
none_two (y ∷ ys) x e = absurd cc

pub begins_with : (s : Visit) (Q : List Visit → Type 0) → Then (Only s) Q [] → ⊥
begins_with s Q t = none_two t.after s (t.list ∙ ap (λ z. t.after ++ z) t.first)

type_some : (q : Post) (f owner : ℕ) (want : PageType) (a : Result Taken Stop) → TypeBy q f owner want a [] → ⊥
type_some q f owner want (Ok t) p = begins_with _ _ p.steps
type_some q f owner want (Err (Paused (Lost place x y))) p = begins_with _ _ p.3
type_some q f owner want (Err e) p = stopped e p
  where
    stopped : (e : Stop) → StopsBy f want e [] → ⊥
    stopped e p = absurd (let l = p.2 in cc)

pub takes_fixed : (v : PortValue) (f owner : ℕ) (want : PageType) → IsFixed v (λ w a. TakesFound v w f owner want a)
takes_fixed v f owner want =
    record {
      came = λ w a p. does_came v w _ p;
      alike = λ w x a b p q. alike_does p q (types_tie v.post (made_real v w _ p (type_some v.post f owner want a)) f owner want a b);
    }

pub type_fixed : (v : PortValue) (f owner level : ℕ) → IsFixed v (λ w a. TookType v w f owner level a)
type_fixed v f owner level = fixed_by (λ w a p. p.found) (takes_fixed v f owner (level_type level))

-- ---- one step whose found word is not told on
pub stored : (v : PortValue) (f : ℕ) (k : KindWord) → IsSure v (λ w. (found : ℕ) × Moves v w (Kind f) (Store (kind_write k)) kinds.Kind None found)
stored v f k = sure_some (fixed_move v (Kind f) (Store (kind_write k)) kinds.Kind None)

pub live_sure : (v : PortValue) (t : TableWork) → IsSure v (λ w. MadeLive v w t)
live_sure v t = stored v t.frame (live_kind (level_type t.level) (type_counts t.own))

pub partial_sure : (v : PortValue) (t : TableWork) → IsSure v (λ w. LeftPartial v w t)
partial_sure v t = stored v t.frame (partial_kind (level_type t.level) false false t.done 0)

pub named_sure : (v : PortValue) (f : ℕ) → IsSure v (λ w. Named v w f)
named_sure v f = sure_at 0 (fixed_move v (old_place v.post.vcpu First) (Store (f + 1)) kinds.Context None)

pub recorded_sure : (v : PortValue) (outer : TableWork) → IsSure v (λ w. (clock : ℕ) × Moves v w Clock Load kinds.Look (Some (Record outer.frame outer.done)) clock)
recorded_sure v outer = sure_some (fixed_move v Clock Load kinds.Look (Some (Record outer.frame outer.done)))

-- ---- one type count too many is given back
pub lowered_sure : (v : PortValue) (f : ℕ) (last : Bool) → IsSure v (λ w. DropsType v w f last)
lowered_sure v f last = sure_as (λ w p. (p.found, p.lowers.step)) (sure_some (fixed_move v (Kind f) (Add one_down) kinds.Kind None))

pub gave_back_sure : (v : PortValue) (f : ℕ) → IsSure v (λ w. GaveBack v w f)
gave_back_sure v f = sure_as (λ w p. (p.between, p.lowers, p.puts)) (sure_two (lowered_sure v f false) (λ u p. gave_sure u f))

pub joined_sure : (v : PortValue) (t outer : TableWork) (recorded : Bool) → IsSure v (λ w. Joined v w t outer recorded)
joined_sure v t outer true = gave_back_sure v t.frame
joined_sure v t outer false = recorded_sure v outer

-- ---- a `kept` mark
module _ (v : PortValue) (f : ℕ) (k : KindWord) (owner : ℕ) where
  abbrev TookOver : PortValue → PortValue → Unit {0} → Type 0
  TookOver x w t =
      Chain (λ y found. TakesBack x y f k found)
      (λ y found. Choice (found ≡ kind_write k) (found ≢ kind_write k) (λ z s. Moves y z (old_place v.post.vcpu First) (Store (f + 1)) kinds.Context None 0) (Ends y tt)) w t

  abbrev LooksAfter : PortValue → PortValue → Unit {0} → Type 0
  LooksAfter u w t =
      Chain (λ x life. Moves u x (Life owner) Load kinds.Look None life) (λ x life. Choice (life ≡ 0) (life ≢ 0) (Ends x tt) (TookOver x)) w t

  abbrev KeptBy : PortValue → Unit {0} → Type 0
  KeptBy w t =
      Choice (owner ≡ domain_of v.post.machine v.post.vcpu) (IsForeign v owner) (λ z s. LeftSo v z f k) (Chain {A = Unit {0}} (λ u s. LeftSo v u f k) (λ u s. LooksAfter u)) w t

  kept_by : (w : PortValue) (t : Unit {0}) → KeptFor v w f k owner → KeptBy w t
  kept_by w t (marks.own e l) = left e l
  kept_by w t (marks.alive u e l m) = right e (record { at = u; answer = tt; first = l; rest = record { at = w; answer = 0; first = m; rest = left refl (refl, refl) } })
  kept_by w t (marks.dying u x y life e l m n b s) =
      right e (record { at = u; answer = tt; first = l; rest = record { at = x; answer = life; first = m; rest = right n (record { at = y; answer = kind_write k; first = b; rest = left refl s }) } })
  kept_by w t (marks.taken u x life found e l m n b o) =
      right e (record { at = u; answer = tt; first = l; rest = record { at = x; answer = life; first = m; rest = right n (record { at = w; answer = found; first = b; rest = right o (refl, refl) }) } })

  over_fixed : (x : PortValue) → IsFixed x (TookOver x)
  over_fixed x = fixed_then (fixed_move x (Kind f) _ kinds.Kind None) (λ y found p. fixed_choice (λ e n. n e) (λ e. sure_at 0 (fixed_move y (old_place v.post.vcpu First) (Store (f + 1)) kinds.Context None)) (λ e. fixed_ends y tt))

  after_fixed : (u : PortValue) → IsFixed u (LooksAfter u)
  after_fixed u = fixed_then (fixed_move u (Life owner) Load kinds.Look None) (λ x life p. fixed_choice (λ e n. n e) (λ e. fixed_ends x tt) (λ e. over_fixed x))

  pub kept_sure : IsSure v (λ w. KeptFor v w f k owner)
  kept_sure = fixed_by kept_by (fixed_choice (λ e n. n e) (λ e. stored v f k) (λ e. fixed_then (stored v f k) (λ u s p. after_fixed u)))

-- ---- tables that are left
pub outermost_sure : (v : PortValue) (owner : ℕ) (t : TableWork) (own kept : Bool) → IsSure v (λ w. OutermostLeft v w owner t own kept)
outermost_sure v owner t true true = kept_sure v t.frame (partial_kind (level_type t.level) true false t.done 0) owner
outermost_sure v owner t true false = sure_two (partial_sure v t) (λ u p. named_sure u t.frame)
outermost_sure v owner t false kept = sure_two (partial_sure v t) (λ u p. gave_sure u t.frame)

pub inner_sure : (v : PortValue) (t outer : TableWork) (own : Bool) → IsSure v (λ w. InnerLeft v w t outer own)
inner_sure v t outer true = sure_as (λ w p. p.1) (sure_two (partial_sure v t) (λ u p. recorded_sure u outer))
inner_sure v t outer false = sure_two (partial_sure v t) (λ u p. gave_sure u t.frame)

unwinds_sure : (v : PortValue) (owner : ℕ) (kept : Bool) (ts : List TableWork) (t : TableWork) → IsSure v (λ w. Unwound v owner (t ∷ ts) kept w)
unwinds_sure v owner kept [] t = outermost_sure v owner t t.own kept
unwinds_sure v owner kept (outer ∷ ts) t = sure_two (inner_sure v t outer t.own) (λ u p. unwinds_sure u owner kept ts (around_left t outer))

pub unwound_sure : (v : PortValue) (owner : ℕ) (ts : List TableWork) (kept : Bool) → IsSure v (λ w. Unwound v owner ts kept w)
unwound_sure v owner [] kept = fixed_by (λ w t p. (p, refl)) (fixed_ends v tt)
unwound_sure v owner (t ∷ ts) kept = unwinds_sure v owner kept ts t

-- ---- frames that wait
pub shared_sure : (v : PortValue) (f : ℕ) (want : PageType) (stamp : ℕ) → IsSure v (λ w. Does v w (λ vs. SharedBy f want stamp vs))
shared_sure v f want stamp = sure_does v _ (shared_tie f want stamp)

pub left_waiting_sure : (v : PortValue) (f level stamp : ℕ) → IsSure v (λ w. LeftWaiting v w f level stamp)
left_waiting_sure v f level stamp = sure_as (λ w p. p.found) (shared_sure v f (level_type level) stamp)

pub waiting_sure : (v : PortValue) (f level owner stamp : ℕ) (own kept : Bool) → IsSure v (λ w. WaitingLeft v w f level owner stamp own kept)
waiting_sure v f level owner stamp true true = kept_sure v f (partial_kind (level_type level) true true 0 stamp) owner
waiting_sure v f level owner stamp true false = sure_two (sure_does v _ (store_tie f (partial_kind (level_type level) false true 0 stamp))) (λ u p. named_sure u f)
waiting_sure v f level owner stamp false kept = shared_sure v f (level_type level) stamp
