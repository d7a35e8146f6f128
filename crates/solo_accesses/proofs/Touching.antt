-- Walks by themselves, and the walk to a page of the LDT that is touched.
use Rattle.std.proofs.lemmas.Option.{same_Some}
use Rattle.std.proofs.Common.{◌≡◌, ℕ, ◌<◌, if◌then◌else◌, Bool, false, List, Option, Some, None, Result, Ok, Err, refl, sym, ap, ◌∙◌, subst}
use Rattle.xp_words.specs.Entries.{frame_of}
use Rattle.xp_words.specs.declared.context.LdtBase.{LdtBase}
use Rattle.xp_words.specs.declared.reply.Refusal.{Refusal}
use Rattle.xp_words.specs.declared.reply.Refusal.TheVariants.{BadRange}
use Rattle.xp_words.specs.declared.reply.Stop.{Stop}
use Rattle.xp_words.specs.declared.reply.Stop.TheVariants.{Refused, Paused}
use Rattle.xp_board.specs.Hands.{IsEmptyHand}
use Rattle.xp_board.specs.Told.{Post, PortValue, told_word}
use Rattle.step_maker.specs.Moves.{Came}
use Rattle.step_maker.specs.Visits.{Does, Nothing, Visit}
use Rattle.step_maker.proofs.Coming.{came_post}
use Rattle.step_maker.proofs.Visiting.{does_as, does_came}
use Rattle.course_laws.proofs.Awaiting.{AloneStays}
use Rattle.tlb_walks.specs.Addresses.{walk_refusal}
use Rattle.tlb_walks.specs.Translating.{Walks}
use Rattle.tlb_walks.specs.Walks as by
use Rattle.tlb_walks.specs.Walks.{WalkBy, top_word}
use Rattle.tlb_walks.specs.declared.walks.Walked.{Walked}
use Rattle.ldt_pages.specs.Touching.{is_beyond, refusal_at, touch_address}
use Rattle.script_law.specs.Values.{Numbers, Solo, allowed, stopped}
use Rattle.script_law.specs.Walks.{Leads, Stops, Way, from_base, take_touched, touch_unnamed}
use Rattle.solo_ports.specs.Standing.{Clean}
use Rattle.solo_accesses.specs.Accesses.{AccessComes, IsRefusedExactly}
use Rattle.solo_accesses.specs.Walking.{IsLed, IsTouchLed, WalkComes}
use Rattle.solo_accesses.proofs.Cells.{OnlyCells}
use Rattle.solo_accesses.proofs.Keeping.{KeepsFrames, clean_cells}
use Rattle.solo_accesses.proofs.Reading.{keeps_way, unread, walk_came}
use Rattle.solo_accesses.proofs.Resting.{cached_empty, holds_empty, same_empty}
use Rattle.solo_accesses.proofs.Walking.{OnWay}
use Rattle.solo_accesses.proofs.Ways.{way_left}

abbrev stop_or : Stop → Result Walked Stop → Stop
stop_or d (Ok r) = d
stop_or d (Err e) = e

module _ (stays : AloneStays) (v w : PortValue) (x : Solo) (clean : Clean v x) where
  -- ---- the end of a walk
  led_by : (r : Walked) (way : Way) → Came v w → IsEmptyHand w.holdings → OnlyCells (told_word v) (told_word w) → KeepsFrames x.frames (way_left way) → OnWay v.post.machine (told_word w) (Ok r) way → IsLed w x (frame_of r.entry) way
  led_by r (Leads f b q) came empty only same (frame, barrier, inside, cells) =
      record {
        barrier = b;
        left = q;
        is = ap (λ g. Leads g b q) (sym frame);
        inside = subst (λ (o : Post). frame_of r.entry < o.machine.frames) (sym (came_post v w came)) (subst (λ g. g < v.post.machine.frames) (sym frame) inside);
        clean = clean_cells stays v w x q clean came empty only same cells;
      }
  led_by r (Stops z q) came empty only same on = absurd on

  ended_by : (e : Stop) (way : Way) → Came v w → IsEmptyHand w.holdings → OnlyCells (told_word v) (told_word w) → KeepsFrames x.frames (way_left way) → OnWay v.post.machine (told_word w) (Err e) way → WalkComes w x way (Err e)
  ended_by (Refused y) (Stops z q) came empty only same on = record { left = q; is = ap (λ k. Stops k q) (sym on.0); clean = clean_cells stays v w x q clean came empty only same on.1 }
  ended_by (Refused y) (Leads f b q) came empty only same on = absurd on
  ended_by (Paused y) (Stops z q) came empty only same on = absurd on
  ended_by (Paused y) (Leads f b q) came empty only same on = absurd on

  module _ (user : Bool) (va : ℕ) (write : Bool) where
    pub walk_comes : (answer : Result ℕ Stop) → walk_refusal va ≡ None → Walks v w user va write answer → WalkComes w x (from_base v.post.machine va write (x.own (top_word user)) x.frames) answer
    walk_comes (Ok entry) free (barrier, does, hand) =
        let r : Walked = record { entry = entry; barrier = barrier } in
        let a = walk_came stays v x clean user va write w (Ok r) free does in
        led_by r (from_base v.post.machine va write (x.own (top_word user)) x.frames) (does_came v w _ does) (holds_empty v w _ hand.hand (cached_empty v.holdings _ clean.stands.empty)) a.1 (keeps_way stays v x clean user va write) a.0
    walk_comes (Err e) free (does, same) =
        let a = walk_came stays v x clean user va write w (Err e) free does in
        ended_by e (from_base v.post.machine va write (x.own (top_word user)) x.frames) (does_came v w _ does) (same_empty v w same clean.stands.empty) a.1 (keeps_way stays v x clean user va write) a.0

    -- ---- the address alone refuses it
    barred_like : (y : Refusal) (answer : Result Walked Stop) → walk_refusal va ≡ Some y → (vs : List Visit) → WalkBy v.post.machine v.post.vcpu user va write answer vs → Nothing vs
    barred_like y answer why vs (by.barred z is at none) = none
    barred_like y answer why vs (by.baseless free at only) = absurd (let no = sym free ∙ why in cc)
    barred_like y answer why vs (by.walks base free some down) = absurd (let no = sym free ∙ why in cc)

    barred_as : (y : Refusal) (answer : Result Walked Stop) → walk_refusal va ≡ Some y → (vs : List Visit) → WalkBy v.post.machine v.post.vcpu user va write answer vs → answer ≡ Err (Refused y)
    barred_as y answer why vs (by.barred z is at none) = at ∙ ap (λ k. Err (Refused k)) (same_Some z y (sym is ∙ why))
    barred_as y answer why vs (by.baseless free at only) = absurd (let no = sym free ∙ why in cc)
    barred_as y answer why vs (by.walks base free some down) = absurd (let no = sym free ∙ why in cc)

    answer_barred : (y : Refusal) (answer : Result Walked Stop) → walk_refusal va ≡ Some y → Does v w (WalkBy v.post.machine v.post.vcpu user va write answer) → answer ≡ Err (Refused y)
    unfolding Does
    answer_barred y answer why does = barred_as y answer why _ does.2

    pub walk_barred : (y : Refusal) (answer : Result ℕ Stop) → walk_refusal va ≡ Some y → Walks v w user va write answer → AccessComes w (stopped (Numbers y) x) answer
    walk_barred y (Ok entry) why (barrier, does, hand) = absurd (let no = answer_barred y (Ok (record { entry = entry; barrier = barrier })) why does in cc)
    walk_barred y (Err e) why (does, same) =
        let is : e ≡ Refused y = ap (stop_or e) (answer_barred y (Err e) why does) in
        subst (λ a. AccessComes w (stopped (Numbers y) x) (Err a)) (sym is) (unread stays v w x clean user va y (does_as v w _ _ (barred_like y (Err e) why) does) same)

  -- ---- the walk to a page of the LDT
  module _ (d page : ℕ) (b : LdtBase) (within : is_beyond page b ≡ false) where
    touch_test : refusal_at page (Some b) ≡ walk_refusal (touch_address page b)
    touch_test = ap (λ c. if c then Some BadRange else walk_refusal (touch_address page b)) within

    tested : (o : Option Refusal) → walk_refusal (touch_address page b) ≡ o →
        touch_unnamed v.post.machine d page b x ≡ allowed o x (take_touched v.post.machine d page x (from_base v.post.machine (touch_address page b) false (x.own 0) x.frames))
    tested o is = ap (λ y. allowed y x (take_touched v.post.machine d page x (from_base v.post.machine (touch_address page b) false (x.own 0) x.frames))) (touch_test ∙ is)

    stopped_touch : (e : Stop) (way : Way) → WalkComes w x way (Err e) → AccessComes w (take_touched v.post.machine d page x way) (Err e)
    stopped_touch (Refused y) way a = subst (λ k. IsRefusedExactly w y (take_touched v.post.machine d page x k)) (sym a.is) (record { is = refl; none = refl; clean = a.clean })
    stopped_touch (Paused y) way a = absurd a

    unwalked_by : (e : Stop) (o : Option Refusal) → walk_refusal (touch_address page b) ≡ o → Walks v w false (touch_address page b) false (Err e) → AccessComes w (touch_unnamed v.post.machine d page b x) (Err e)
    unwalked_by e None is a =
        subst (λ k. AccessComes w k (Err e)) (sym (tested None is))
        (stopped_touch e (from_base v.post.machine (touch_address page b) false (x.own 0) x.frames) (walk_comes false (touch_address page b) false (Err e) is a))
    unwalked_by e (Some y) is a = subst (λ k. AccessComes w k (Err e)) (sym (tested (Some y) is)) (walk_barred false (touch_address page b) false y (Err e) is a)

    -- it is refused there
    pub touch_unwalked : (e : Stop) → Walks v w false (touch_address page b) false (Err e) → AccessComes w (touch_unnamed v.post.machine d page b x) (Err e)
    touch_unwalked e a = unwalked_by e (walk_refusal (touch_address page b)) refl a

    walked_to : (entry : ℕ) (o : Option Refusal) → walk_refusal (touch_address page b) ≡ o → Walks v w false (touch_address page b) false (Ok entry) → IsTouchLed v w x d page b entry
    walked_to entry None is a =
        let k = walk_comes false (touch_address page b) false (Ok entry) is a in
        record { barrier = k.barrier; left = k.left; is = tested None is ∙ ap (take_touched v.post.machine d page x) k.is; inside = k.inside; clean = k.clean }
    walked_to entry (Some y) is a = absurd (let no = (walk_barred false (touch_address page b) false y (Ok entry) is a).fine in cc)

    -- or leads to the frame that is to be taken
    pub touch_walked : (entry : ℕ) → Walks v w false (touch_address page b) false (Ok entry) → IsTouchLed v w x d page b entry
    touch_walked entry a = walked_to entry (walk_refusal (touch_address page b)) refl a
