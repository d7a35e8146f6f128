-- Entries of tables in work, by what is answered: no frame falls, and what comes into work was not in work.
use Rattle.std.proofs.Common.{◌≡◌, ℕ, ◌<◌, nat_lt, if◌then◌else◌, Bool, true, false, List, Option, Some, None, Ok, Err, IsTrue, refl, sym, subst, arith}
use Rattle.std.proofs.lemmas.Bool.Decides.{nat_tests}
use Rattle.xp_words.specs.KindWords.{is_kind}
use Rattle.xp_words.specs.Machine.{Machine}
use Rattle.xp_words.specs.declared.entry.Demand.{Demand}
use Rattle.xp_words.specs.declared.entry.Demand.TheVariants as demands
use Rattle.xp_words.specs.declared.kind.KindWord.{KindWord}
use Rattle.xp_words.specs.declared.kind.PageType.{PageType}
use Rattle.xp_words.specs.declared.place.Place.TheVariants.{Refs}
use Rattle.xp_words.specs.declared.reply.Pause.{Pause}
use Rattle.xp_words.specs.declared.reply.Pause.TheVariants as pauses
use Rattle.xp_words.specs.declared.reply.Refusal.{Refusal}
use Rattle.xp_words.specs.declared.reply.Refusal.TheVariants as refusals
use Rattle.xp_words.specs.declared.reply.Stop.{Stop}
use Rattle.xp_words.specs.declared.reply.Stop.TheVariants.{Paused}
use Rattle.xp_words.specs.RefWords.{ref_read}
use Rattle.xp_board.specs.Readings.{kind_at}
use Rattle.xp_board.specs.Told.{PortValue, told_word}
use Rattle.step_maker.specs.Plain.{Leaves, Words}
use Rattle.frame_words.specs.Plain.{got, put, refer, refer_by}
use Rattle.kind_words.specs.Kinds.{partial_kind}
use Rattle.partial_state.specs.declared.stack.TableWork.{TableWork}
use Rattle.table_entries.specs.Plain.{EntersPlainly, RefersPlainly, TypedPlainly, TypesPlainly}
use Rattle.table_entries.specs.declared.entries.Entered.TheVariants.{Recorded, Opened, Unsettled}
use Rattle.frame_ranks.proofs.Facing.{Calm, Turned, calm_then, calm_turned, got_calm, put_calm, same_calm}
use Rattle.frame_ranks.proofs.Taking.{TakenLive, TakenWait, TakenWork, left_partial_turned, left_shared_turned, takes_live, takes_work, waits_low}
use Rattle.frame_ranks.proofs.Turning.{beside, calm_moved, dead_lasts}
use Rattle.frame_ranks.proofs.Valuing.{Moved, Works}

-- a reference is taken of frames that there are
pub refer_inside : (n : Machine) (owner g w : ℕ) → refer n owner g w ≡ None → g < n.frames
refer_inside n owner g w none = by (nat_lt g n.frames) refl none
  where
    by : (b : Bool) → nat_lt g n.frames ≡ b → (if b then refer_by n.limit owner g w (ref_read w) else Some (refusals.NoFrame g)) ≡ None → g < n.frames
    by true inside none = grind (arith, nat_tests)
    by false inside none = absurd cc

-- a frame that came into work
pub record Opening (n : Machine) (m x : Words) (f progress : ℕ) : Type 0 where
  pub inside : f < n.frames
  pub taken : TakenWork m x f progress

-- one that was not live, and is
pub record Retaken (n : Machine) (m x : Words) (f : ℕ) : Type 0 where
  pub inside : f < n.frames
  pub dead : (kind_at m f).validated ≡ false
  pub taken : TakenLive m x f

-- one that waits, in work until it is left
pub record Rewaiting (n : Machine) (m x : Words) (f : ℕ) : Type 0 where
  pub inside : f < n.frames
  pub waits : TakenWait m f
  pub word : KindWord
  pub turned : Turned m x f word

abbrev pub IsSpelled : Machine → Words → Type 0
IsSpelled n m = (g : ℕ) → g < n.frames → IsTrue (is_kind (kind_at m g))

pub live_before : (n : Machine) (m x : Words) (g : ℕ) → TakenLive (got g m) x g → TakenLive m x g
live_before n m x g a =
    record {
      word = a.word;
      turned = calm_turned m (got g m) x g a.word (got_calm g m) a.turned;
      live = a.live;
      idle = a.idle;
      more = a.more;
      lasts = a.lasts;
      higher = a.higher;
    }

pub work_before : (m x : Words) (g progress : ℕ) → TakenWork (got g m) x g progress → TakenWork m x g progress
work_before m x g progress a =
    record {
      word = a.word;
      turned = calm_turned m (got g m) x g a.word (got_calm g m) a.turned;
      work = a.work;
      idle = a.idle;
      dead = a.dead;
      low = a.low;
      few = a.few;
    }

module _ (n : Machine) (owner : ℕ) (m : Words) (w : PortValue) (ts : List TableWork) (works : Works n m ts) (spelled : IsSpelled n m) where
  x : Words
  x = told_word w

  stays : Calm m x → Moved n m ts x ts
  stays calm = calm_moved n m x ts calm works

  left_as : (l : Words) → Calm m l → Leaves w l → Moved n m ts (told_word w) ts
  unfolding x
  left_as l calm leaves = stays (calm_then m l (told_word w) calm (same_calm l (told_word w) leaves))

  -- one is left waiting
  waits_moved : (g : ℕ) (t : PageType) → TakenWait (got g m) g → Turned (got g m) (told_word w) g (partial_kind t false true 0 0) → Moved n m ts (told_word w) ts
  waits_moved g t waits turned =
      let l = partial_kind t false true 0 0 in
      beside n m (told_word w) g l (calm_turned m (got g m) (told_word w) g l (got_calm g m) turned) ts works waits.idle waits.low (dead_lasts (kind_at m g) l waits.dead)

  got_spelled : (g : ℕ) → g < n.frames → IsTrue (is_kind (kind_at (got g m) g))
  got_spelled g inside = spelled g inside

  -- ---- the next entry
  recorded_refers : (g : ℕ) (o : Option Refusal) → RefersPlainly w m (Ok Recorded) o (got g m) → Moved n m ts (told_word w) ts
  recorded_refers g (Some r) a = absurd (let e = a.0 in cc)
  recorded_refers g None a = left_as (got g m) (got_calm g m) a.1

  recorded_typed : (g : ℕ) (t : PageType) (o : Option Refusal) → refer n owner g (m (Refs g)) ≡ o → TypedPlainly w m g t (Ok Recorded) o → Moved n m ts (told_word w) ts
  recorded_typed g t (Some r) is a = absurd (let e = a.0 in cc)
  recorded_typed g t None is a =
      let inside = refer_inside n owner g (m (Refs g)) is in
      let live = live_before n m (told_word w) g (takes_live (got g m) g t (told_word w) (got_spelled g inside) a.0.0 a.1) in
      beside n m (told_word w) g live.word live.turned ts works live.idle live.more live.lasts

  pub enter_recorded : (f i : ℕ) (d : Demand) → EntersPlainly n w m f i owner (Ok Recorded) d → Moved n m ts (told_word w) ts
  enter_recorded f i demands.Nothing a = left_as m (same_calm m m (λ q. refl)) a.1
  enter_recorded f i demands.Bad a = absurd (let e = a.0 in cc)
  enter_recorded f i (demands.Read g) a = recorded_refers g (refer n owner g (m (Refs g))) a
  enter_recorded f i (demands.Typed g t) a = recorded_typed g t (refer n owner g (m (Refs g))) refl a

  opened_refers : (g h progress : ℕ) (own : Bool) (o : Option Refusal) → RefersPlainly w m (Ok (Opened h progress own)) o (got g m) → Opening n m (told_word w) h progress
  opened_refers g h progress own (Some r) a = absurd (let e = a.0 in cc)
  opened_refers g h progress own None a = absurd (let e = a.0 in cc)

  opened_typed : (g : ℕ) (t : PageType) (h progress : ℕ) (own : Bool) (o : Option Refusal) → refer n owner g (m (Refs g)) ≡ o → TypedPlainly w m g t (Ok (Opened h progress own)) o → Opening n m (told_word w) h progress
  opened_typed g t h progress own (Some r) is a = absurd (let e = a.0 in cc)
  opened_typed g t h progress own None is a =
      let inside = refer_inside n owner g (m (Refs g)) is in
      subst (λ j. Opening n m (told_word w) j progress) (sym a.0)
      (record { inside = inside; taken = work_before m (told_word w) g progress (takes_work (got g m) g t (told_word w) (got_spelled g inside) a.1.0 progress own a.1.1 a.2) })

  pub enter_opened : (f i h progress : ℕ) (own : Bool) (d : Demand) → EntersPlainly n w m f i owner (Ok (Opened h progress own)) d → Opening n m (told_word w) h progress
  enter_opened f i h progress own demands.Nothing a = absurd (let e = a.0 in cc)
  enter_opened f i h progress own demands.Bad a = absurd (let e = a.0 in cc)
  enter_opened f i h progress own (demands.Read g) a = opened_refers g h progress own (refer n owner g (m (Refs g))) a
  enter_opened f i h progress own (demands.Typed g t) a = opened_typed g t h progress own (refer n owner g (m (Refs g))) refl a

  unsettled_refers : (g : ℕ) (stop : Stop) (o : Option Refusal) → RefersPlainly w m (Ok (Unsettled stop)) o (got g m) → Moved n m ts (told_word w) ts
  unsettled_refers g stop (Some r) a = absurd (let e = a.0 in cc)
  unsettled_refers g stop None a = absurd (let e = a.0 in cc)

  unsettled_typed : (g : ℕ) (t : PageType) (stop : Stop) (o : Option Refusal) → TypedPlainly w m g t (Ok (Unsettled stop)) o → Moved n m ts (told_word w) ts
  unsettled_typed g t stop (Some r) a = absurd (let e = a.0 in cc)
  unsettled_typed g t stop None a = waits_moved g t (waits_low (got g m) g t a.0) (left_partial_turned (got g m) g t (told_word w) a.3)

  pub enter_unsettled : (f i : ℕ) (stop : Stop) (d : Demand) → EntersPlainly n w m f i owner (Ok (Unsettled stop)) d → Moved n m ts (told_word w) ts
  enter_unsettled f i stop demands.Nothing a = absurd (let e = a.0 in cc)
  enter_unsettled f i stop demands.Bad a = absurd (let e = a.0 in cc)
  enter_unsettled f i stop (demands.Read g) a = unsettled_refers g stop (refer n owner g (m (Refs g))) a
  enter_unsettled f i stop (demands.Typed g t) a = unsettled_typed g t stop (refer n owner g (m (Refs g))) a

  put_back : (g : ℕ) → Leaves w (put g (got g m)) → Moved n m ts (told_word w) ts
  put_back g leaves = left_as (put g (got g m)) (calm_then m (got g m) (put g (got g m)) (got_calm g m) (put_calm g (got g m))) leaves

  paused_types : (g : ℕ) (t : PageType) (p : Pause) → TypesPlainly w (got g m) g t (Err (Paused p)) → Moved n m ts (told_word w) ts
  paused_types g t (pauses.Flush u y z) a = waits_moved g t (waits_low (got g m) g t a.0) (left_shared_turned (got g m) g t (told_word w) a.2)
  paused_types g t _ a = put_back g a.1

  paused_refers : (g : ℕ) (p : Pause) (o : Option Refusal) → RefersPlainly w m (Err (Paused p)) o (got g m) → Moved n m ts (told_word w) ts
  paused_refers g p (Some r) a = absurd (let e = a.0 in cc)
  paused_refers g p None a = absurd (let e = a.0 in cc)

  paused_typed : (g : ℕ) (t : PageType) (p : Pause) (o : Option Refusal) → TypedPlainly w m g t (Err (Paused p)) o → Moved n m ts (told_word w) ts
  paused_typed g t p (Some r) a = absurd (let e = a.0 in cc)
  paused_typed g t p None a = paused_types g t p a

  pub enter_paused : (f i : ℕ) (p : Pause) (d : Demand) → EntersPlainly n w m f i owner (Err (Paused p)) d → Moved n m ts (told_word w) ts
  enter_paused f i p demands.Nothing a = absurd (let e = a.0 in cc)
  enter_paused f i p demands.Bad a = absurd (let e = a.0 in cc)
  enter_paused f i p (demands.Read g) a = paused_refers g p (refer n owner g (m (Refs g))) a
  enter_paused f i p (demands.Typed g t) a = paused_typed g t p (refer n owner g (m (Refs g))) a
