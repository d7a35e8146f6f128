-- The last recorded entry of a table, looked at again, by what is answered.
use Rattle.std.proofs.Common.{◌≡◌, ℕ, ◌<◌, ◌&&◌, nat_lt, Bool, true, false, List, Option, Some, None, Ok, Err, refl, sym, ap, ◌∙◌, subst, arith}
use Rattle.std.proofs.lemmas.Bool.Decides.{nat_tests}
use Rattle.xp_words.specs.Machine.{Machine}
use Rattle.xp_words.specs.declared.entry.Demand.{Demand}
use Rattle.xp_words.specs.declared.entry.Demand.TheVariants as demands
use Rattle.xp_words.specs.declared.kind.PageType.{PageType}
use Rattle.xp_words.specs.declared.place.Place.TheVariants.{Kind, Refs}
use Rattle.xp_words.specs.declared.reply.Pause.{Pause}
use Rattle.xp_words.specs.declared.reply.Refusal.{Refusal}
use Rattle.xp_words.specs.declared.reply.Stop.{Stop}
use Rattle.xp_words.specs.declared.reply.Stop.TheVariants.{Paused}
use Rattle.xp_board.specs.Readings.{is_live_word, kind_at}
use Rattle.xp_board.specs.Told.{PortValue, told_word}
use Rattle.step_maker.specs.Plain.{Leaves, Words}
use Rattle.frame_words.specs.Plain.{got, put, refer}
use Rattle.partial_state.specs.declared.stack.TableWork.{TableWork}
use Rattle.table_entries.specs.Plain.{AgainBy, AgainWhere, ResumesPlainly}
use Rattle.table_entries.specs.declared.resuming.Resumed.TheVariants as again
use Rattle.frame_ranks.proofs.Entering.{IsSpelled, Opening, Retaken, Rewaiting, live_before, refer_inside, work_before}
use Rattle.frame_ranks.proofs.Facing.{calm_then, calm_turned, got_calm, put_calm, same_calm}
use Rattle.frame_ranks.proofs.Taking.{takes_live, takes_wait, takes_work}
use Rattle.frame_ranks.proofs.Turning.{calm_moved}
use Rattle.frame_ranks.proofs.Valuing.{Moved, Works}

-- a frame that there is, and that was not found live
not_live : (n : Machine) (m : Words) (g : ℕ) → g < n.frames → (nat_lt g n.frames && is_live_word (m (Kind g))) ≡ false → (kind_at m g).validated ≡ false
not_live n m g inside off = let e : nat_lt g n.frames ≡ true = grind (arith, nat_tests) in sym (ap (λ b. b && is_live_word (m (Kind g))) e) ∙ off

module _ (n : Machine) (owner : ℕ) (m : Words) (w : PortValue) (spelled : IsSpelled n m) where
  -- it is still live, or asks no type
  calm_where : (ts : List TableWork) → Works n m ts → Leaves w m → Moved n m ts (told_word w) ts
  calm_where ts works leaves = calm_moved n m (told_word w) ts (same_calm m (told_word w) leaves) works

  settled_by : (ts : List TableWork) (works : Works n m ts) (g : ℕ) (t : PageType) (o : Option Refusal) → AgainBy w m g t (Ok again.Settled) o → Moved n m ts (told_word w) ts
  settled_by ts works g t (Some r) a = absurd (let e = a.0 in cc)
  settled_by ts works g t None a = absurd a

  settled_where : (ts : List TableWork) (works : Works n m ts) (g : ℕ) (t : PageType) (b : Bool) → AgainWhere n w m g t owner (Ok again.Settled) b → Moved n m ts (told_word w) ts
  settled_where ts works g t true a = calm_where ts works a.1
  settled_where ts works g t false a = settled_by ts works g t (refer n owner g (m (Refs g))) a

  pub resume_settled : (ts : List TableWork) (works : Works n m ts) (d : Demand) → ResumesPlainly n w m owner (Ok again.Settled) d → Moved n m ts (told_word w) ts
  resume_settled ts works (demands.Typed g t) a = settled_where ts works g t (nat_lt g n.frames && is_live_word (m (Kind g))) a
  resume_settled ts works demands.Nothing a = calm_where ts works a.1
  resume_settled ts works demands.Bad a = calm_where ts works a.1
  resume_settled ts works (demands.Read g) a = calm_where ts works a.1

  -- ---- its frame is live now
  taken_by : (g h : ℕ) (t : PageType) (o : Option Refusal) → refer n owner g (m (Refs g)) ≡ o → (nat_lt g n.frames && is_live_word (m (Kind g))) ≡ false → AgainBy w m g t (Ok (again.Taken h)) o → Retaken n m (told_word w) h
  taken_by g h t (Some r) is off a = absurd (let e = a.0 in cc)
  taken_by g h t None is off a =
      let inside = refer_inside n owner g (m (Refs g)) is in
      subst (Retaken n m (told_word w)) (sym a.0) (record { inside = inside; dead = not_live n m g inside off; taken = live_before n m (told_word w) g (takes_live (got g m) g t (told_word w) (spelled g inside) a.1.0 a.2) })

  taken_where : (g h : ℕ) (t : PageType) (b : Bool) → (nat_lt g n.frames && is_live_word (m (Kind g))) ≡ b → AgainWhere n w m g t owner (Ok (again.Taken h)) b → Retaken n m (told_word w) h
  taken_where g h t true is a = absurd (let e = a.0 in cc)
  taken_where g h t false is a = taken_by g h t (refer n owner g (m (Refs g))) refl is a

  pub resume_taken : (h : ℕ) (d : Demand) → ResumesPlainly n w m owner (Ok (again.Taken h)) d → Retaken n m (told_word w) h
  resume_taken h (demands.Typed g t) a = taken_where g h t (nat_lt g n.frames && is_live_word (m (Kind g))) refl a
  resume_taken h demands.Nothing a = absurd (let e = a.0 in cc)
  resume_taken h demands.Bad a = absurd (let e = a.0 in cc)
  resume_taken h (demands.Read g) a = absurd (let e = a.0 in cc)

  -- ---- its frame is in work
  opened_by : (g h progress : ℕ) (t : PageType) (o : Option Refusal) → refer n owner g (m (Refs g)) ≡ o → AgainBy w m g t (Ok (again.Opened h progress)) o → Opening n m (told_word w) h progress
  opened_by g h progress t (Some r) is a = absurd (let e = a.0 in cc)
  opened_by g h progress t None is a =
      let inside = refer_inside n owner g (m (Refs g)) is in
      subst (λ j. Opening n m (told_word w) j progress) (sym a.0)
      (record { inside = inside; taken = work_before m (told_word w) g progress (takes_work (got g m) g t (told_word w) (spelled g inside) a.1.0 progress false a.1.1 a.2) })

  opened_where : (g h progress : ℕ) (t : PageType) (b : Bool) → AgainWhere n w m g t owner (Ok (again.Opened h progress)) b → Opening n m (told_word w) h progress
  opened_where g h progress t true a = absurd (let e = a.0 in cc)
  opened_where g h progress t false a = opened_by g h progress t (refer n owner g (m (Refs g))) refl a

  pub resume_opened : (h progress : ℕ) (d : Demand) → ResumesPlainly n w m owner (Ok (again.Opened h progress)) d → Opening n m (told_word w) h progress
  resume_opened h progress (demands.Typed g t) a = opened_where g h progress t (nat_lt g n.frames && is_live_word (m (Kind g))) a
  resume_opened h progress demands.Nothing a = absurd (let e = a.0 in cc)
  resume_opened h progress demands.Bad a = absurd (let e = a.0 in cc)
  resume_opened h progress (demands.Read g) a = absurd (let e = a.0 in cc)

  -- ---- it waits
  waiting_by : (g h stamp : ℕ) (stop : Stop) (t : PageType) (o : Option Refusal) → refer n owner g (m (Refs g)) ≡ o → AgainBy w m g t (Ok (again.Waiting h stamp stop)) o → Rewaiting n m (told_word w) h
  waiting_by g h stamp stop t (Some r) is a = absurd (let e = a.0 in cc)
  waiting_by g h stamp stop t None is a =
      let inside = refer_inside n owner g (m (Refs g)) is in
      let b = takes_wait (got g m) g t (told_word w) (spelled g inside) a.1.0 false stamp stop a.1.1 a.2 in
      subst (Rewaiting n m (told_word w)) (sym a.0)
      (record { inside = inside; waits = record { idle = b.0.idle; dead = b.0.dead; low = b.0.low }; word = b.1.0; turned = calm_turned m (got g m) (told_word w) g b.1.0 (got_calm g m) b.1.1 })

  waiting_where : (g h stamp : ℕ) (stop : Stop) (t : PageType) (b : Bool) → AgainWhere n w m g t owner (Ok (again.Waiting h stamp stop)) b → Rewaiting n m (told_word w) h
  waiting_where g h stamp stop t true a = absurd (let e = a.0 in cc)
  waiting_where g h stamp stop t false a = waiting_by g h stamp stop t (refer n owner g (m (Refs g))) refl a

  pub resume_waiting : (h stamp : ℕ) (stop : Stop) (d : Demand) → ResumesPlainly n w m owner (Ok (again.Waiting h stamp stop)) d → Rewaiting n m (told_word w) h
  resume_waiting h stamp stop (demands.Typed g t) a = waiting_where g h stamp stop t (nat_lt g n.frames && is_live_word (m (Kind g))) a
  resume_waiting h stamp stop demands.Nothing a = absurd (let e = a.0 in cc)
  resume_waiting h stamp stop demands.Bad a = absurd (let e = a.0 in cc)
  resume_waiting h stamp stop (demands.Read g) a = absurd (let e = a.0 in cc)

  -- ---- it stops
  paused_by : (ts : List TableWork) (works : Works n m ts) (g : ℕ) (t : PageType) (p : Pause) (o : Option Refusal) → AgainBy w m g t (Err (Paused p)) o → Moved n m ts (told_word w) ts
  paused_by ts works g t p (Some r) a = absurd (let e = a.0 in cc)
  paused_by ts works g t p None a =
      let l = put g (got g m) in
      calm_moved n m (told_word w) ts (calm_then m l (told_word w) (calm_then m (got g m) l (got_calm g m) (put_calm g (got g m))) (same_calm l (told_word w) a.1)) works

  paused_where : (ts : List TableWork) (works : Works n m ts) (g : ℕ) (t : PageType) (p : Pause) (b : Bool) → AgainWhere n w m g t owner (Err (Paused p)) b → Moved n m ts (told_word w) ts
  paused_where ts works g t p true a = absurd (let e = a.0 in cc)
  paused_where ts works g t p false a = paused_by ts works g t p (refer n owner g (m (Refs g))) a

  pub resume_paused : (ts : List TableWork) (works : Works n m ts) (p : Pause) (d : Demand) → ResumesPlainly n w m owner (Err (Paused p)) d → Moved n m ts (told_word w) ts
  resume_paused ts works p (demands.Typed g t) a = paused_where ts works g t p (nat_lt g n.frames && is_live_word (m (Kind g))) a
  resume_paused ts works p demands.Nothing a = absurd (let e = a.0 in cc)
  resume_paused ts works p demands.Bad a = absurd (let e = a.0 in cc)
  resume_paused ts works p (demands.Read g) a = absurd (let e = a.0 in cc)
