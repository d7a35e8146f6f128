-- Steps of a turn that change nothing of what is owed or kept: its beginning, the end of an answer, and what is settled where nothing is left.
use Rattle.std.proofs.Common.{◌≡◌, ◌⊎◌, ℕ, ◌+◌, ◌<◌, ◌==◌, nat_lt, not, length, Bool, true, false, if◌then◌else◌, List, [], Option, Some, None, Result, Ok, Err, refl, sym, ap, ◌∙◌, subst, inl, inr}
use Rattle.xp_words.specs.declared.place.Place.{Place}
use Rattle.xp_words.specs.declared.place.Place.TheVariants.{Clock, Life, Vcpu}
use Rattle.xp_words.specs.declared.reply.Refusal.{Refusal}
use Rattle.xp_words.specs.declared.reply.Stop.{Stop}
use Rattle.xp_board.specs.declared.holdings.Holdings.{Holdings}
use Rattle.xp_board.specs.declared.step.Act.{Act}
use Rattle.xp_board.specs.declared.step.Act.TheVariants.{Cas, Load, Store}
use Rattle.xp_board.specs.declared.step.Mark.{Mark}
use Rattle.xp_board.specs.declared.step.Mark.TheVariants as marks
use Rattle.xp_board.specs.declared.step.StepKind.{StepKind}
use Rattle.xp_board.specs.declared.step.StepKind.TheVariants as kinds
use Rattle.xp_board.specs.Acts.{left_by}
use Rattle.xp_board.specs.After.{learned, learned_life, learned_own}
use Rattle.xp_board.specs.Hands.{IsEmptyHand}
use Rattle.xp_board.specs.Lists.{kept_of}
use Rattle.xp_board.specs.Told.{PortValue, is_telling, told_word}
use Rattle.step_maker.specs.Moves.{Moves, hand_at}
use Rattle.step_maker.specs.Twins.{Alike}
use Rattle.step_maker.proofs.Alikes.{alike_trans, same_alike}
use Rattle.step_maker.proofs.Coming.{moves_came}
use Rattle.step_maker.proofs.Telling.{came_telling, load_tells, moves_telling}
use Rattle.answer_laws.proofs.Shared.{alone_telling}
use Rattle.course_laws.proofs.Awaiting.{NeitherLostNorBusy}
use Rattle.flush_words.specs.Flushing.{FlushesOwn}
use Rattle.flush_words.specs.Flushing as flushing
use Rattle.flush_words.proofs.FlushTwin.{own_alike}
use Rattle.table_law.specs.Plain.{plain_of}
use Rattle.script_law.specs.Values.{Solo}
use Rattle.solo_pins.proofs.Meaning.{Laws}
use Rattle.solo_ports.specs.Standing.{Stands, StaysAlike, nothing, whose}
use Rattle.solo_ports.proofs.Along.{owes_on}
use Rattle.tlb_walks.specs.Dropping.{Heeds}
use Rattle.tlb_walks.proofs.Flushes.{heeds_came}
use Rattle.vcpu_turn.specs.Settling.{Settles}
use Rattle.vcpu_turn.specs.Turning.{Begins}
use Rattle.vcpu_turn.proofs.Hindering.{settles_came}
use Rattle.vcpu_turn.proofs.Turns.{begins_came}
use Rattle.script_laws.proofs.Items.{described}
use Rattle.script_laws.proofs.Settling.{ended_ok, same_settled, settles_clean, settles_owes}
use Rattle.script_laws.proofs.Tasking.{Elements, Moving}

-- ---- nothing is in hand behind a look, a tick of the clock, or a flush
either : (b : Bool) (x y : Holdings) → IsEmptyHand x → IsEmptyHand y → IsEmptyHand (if b then x else y)
either true x y a e = a
either false x y a e = e

none_kept : (h : Holdings) (d : ℕ) → h.looking ≡ [] → kept_of (λ e. not (e.owner == d)) h.looking ≡ []
unfolding kept_of
none_kept h d is = rw is refl

by_own : (k x : ℕ) (h : Holdings) → IsEmptyHand h → IsEmptyHand (learned_own k x h)
by_own k x h e =
    let run = record h { run = Some x } in
    let second = record h { old1 = Some x } in
    let first = record h { old0 = Some x } in
    let kept = λ (y : Holdings) (a : IsEmptyHand y). a in
    either (k == 2) first (if k == 3 then second else if k == 6 then run else h) (record { refs = e.refs; typed = e.typed; works = e.works; locks = e.locks; ending = e.ending; claimed = e.claimed; raised = e.raised; credits = e.credits; looking = e.looking })
    (either (k == 3) second (if k == 6 then run else h) (record { refs = e.refs; typed = e.typed; works = e.works; locks = e.locks; ending = e.ending; claimed = e.claimed; raised = e.raised; credits = e.credits; looking = e.looking })
    (either (k == 6) run h (record { refs = e.refs; typed = e.typed; works = e.works; locks = e.locks; ending = e.ending; claimed = e.claimed; raised = e.raised; credits = e.credits; looking = e.looking }) e))

by_life : (d found : ℕ) (h : Holdings) → IsEmptyHand h → IsEmptyHand (learned_life d found h)
by_life d found h e =
    either (found == 0) (record h { looking = kept_of (λ x. not (x.owner == d)) h.looking }) h
    (record { refs = e.refs; typed = e.typed; works = e.works; locks = e.locks; ending = e.ending; claimed = e.claimed; raised = e.raised; credits = e.credits; looking = none_kept h d e.looking }) e

-- a place whose word tells nothing of frames
data IsAside : Place → Type 0 where
  clock : IsAside Clock
  word : (v k : ℕ) → IsAside (Vcpu v k)
  life : (d : ℕ) → IsAside (Life d)

by_learning : (s : ℕ) (p : Place) (found left : ℕ) (h : Holdings) → IsAside p → IsEmptyHand h → IsEmptyHand (learned s p found left h)
by_learning s _ found left h clock e = e
by_learning s _ found left h (word v k) e = either (v == s) (learned_own k left h) h (by_own k left h e) e
by_learning s _ found left h (life d) e = by_life d found h e

noted_empty : (v w : PortValue) (p : Place) (a : Act) (by : StepKind) (mark : Option Mark) (found : ℕ) → Moves v w p a by mark found → IsEmptyHand (hand_at v p a by mark found) → IsEmptyHand w.holdings
noted_empty v w p a by mark found m e = subst (λ (y : PortValue). IsEmptyHand y.holdings) (sym m.to) e

looked_empty : (v w : PortValue) (p : Place) (found : ℕ) → IsAside p → Moves v w p Load kinds.Look None found → IsEmptyHand v.holdings → IsEmptyHand w.holdings
looked_empty v w p found aside m e =
    noted_empty v w p Load kinds.Look None found m
    (let k = by_learning v.post.vcpu p found (left_by Load found) v.holdings aside e in
    record { refs = k.refs; typed = k.typed; works = k.works; locks = k.locks; ending = k.ending; claimed = k.claimed; raised = k.raised; credits = k.credits; looking = k.looking })

marked_empty : (v w : PortValue) (p : Place) (mark : Mark) (found : ℕ) → IsAside p → (mark ≡ marks.Turn) ⊎ ((call : ℕ) × (mark ≡ marks.Cut call)) → Moves v w p Load kinds.Look (Some mark) found → IsEmptyHand v.holdings → IsEmptyHand w.holdings
marked_empty v w p marks.Turn found aside is m e =
    noted_empty v w p Load kinds.Look (Some marks.Turn) found m
    (let turned = record v.holdings { turn = length v.holdings.steps } in
    let start : IsEmptyHand turned = record { refs = e.refs; typed = e.typed; works = e.works; locks = e.locks; ending = e.ending; claimed = e.claimed; raised = e.raised; credits = e.credits; looking = e.looking } in
    let k = by_learning v.post.vcpu p found (left_by Load found) turned aside start in
    record { refs = k.refs; typed = k.typed; works = k.works; locks = k.locks; ending = k.ending; claimed = k.claimed; raised = k.raised; credits = k.credits; looking = k.looking })
marked_empty v w p (marks.Cut call) found aside is m e =
    noted_empty v w p Load kinds.Look (Some (marks.Cut call)) found m
    (let k = by_learning v.post.vcpu p found (left_by Load found) v.holdings aside e in
    record { refs = k.refs; typed = k.typed; works = k.works; locks = k.locks; ending = k.ending; claimed = k.claimed; raised = k.raised; credits = k.credits; looking = k.looking })
marked_empty v w p _ found aside (inl is) m e = absurd cc
marked_empty v w p _ found aside (inr is) m e = absurd (let k = is.1 in cc)

ticked_empty : (v w : PortValue) (a b found : ℕ) → Moves v w Clock (Cas a b) kinds.Tick None found → IsEmptyHand v.holdings → IsEmptyHand w.holdings
ticked_empty v w a b found m e =
    noted_empty v w Clock (Cas a b) kinds.Tick None found m (record { refs = e.refs; typed = e.typed; works = e.works; locks = e.locks; ending = e.ending; claimed = e.claimed; raised = e.raised; credits = e.credits; looking = e.looking })

acked_empty : (v w : PortValue) (s k new found : ℕ) → Moves v w (Vcpu s k) (Store new) kinds.Ack None found → IsEmptyHand v.holdings → IsEmptyHand w.holdings
acked_empty v w s k new found m e =
    noted_empty v w (Vcpu s k) (Store new) kinds.Ack None found m
    (let acked = record v.holdings { cache = []; cold = false; acked = length v.holdings.steps + 1 } in
    let start : IsEmptyHand acked = record { refs = e.refs; typed = e.typed; works = e.works; locks = e.locks; ending = e.ending; claimed = e.claimed; raised = e.raised; credits = e.credits; looking = e.looking } in
    let y = by_learning v.post.vcpu (Vcpu s k) found (left_by (Store new) found) acked (word s k) start in
    record { refs = y.refs; typed = y.typed; works = y.works; locks = y.locks; ending = y.ending; claimed = y.claimed; raised = y.raised; credits = y.credits; looking = y.looking })

flushed_empty : (v w : PortValue) (answer : Result (Unit {0}) Refusal) → FlushesOwn v w answer → IsEmptyHand v.holdings → IsEmptyHand w.holdings
flushed_empty v w _ (flushing.FlushesOwn.spent look) e = looked_empty v w Clock _ clock look e
flushed_empty v w _ (flushing.FlushesOwn.ticked a b time before low look tick store) e = acked_empty b w _ _ _ before store (ticked_empty a b time (time + 1) time tick (looked_empty v a Clock time clock look e))
flushed_empty v w _ (flushing.FlushesOwn.overtaken a b time found before low other look tick store) e = acked_empty b w _ _ _ before store (ticked_empty a b time (time + 1) found tick (looked_empty v a Clock time clock look e))

-- ---- a turn begins
heeds_alike : (b : Bool) (v w : PortValue) → is_telling v ≡ true → Heeds b v w → Alike (told_word w) (told_word v)
heeds_alike true v w telling heeds = same_alike (told_word w) (told_word v) (λ q. ap (λ (y : PortValue). told_word y q) heeds)
heeds_alike false v w telling heeds = own_alike v w heeds.0 heeds.1

heeds_empty : (b : Bool) (v w : PortValue) → Heeds b v w → IsEmptyHand v.holdings → IsEmptyHand w.holdings
heeds_empty true v w heeds e = subst (λ (y : PortValue). IsEmptyHand y.holdings) (sym heeds) e
heeds_empty false v w heeds e = flushed_empty v w heeds.0 heeds.1 e

look_same : (v w : PortValue) (p : Place) (mark : Option Mark) (found : ℕ) → is_telling v ≡ true → Moves v w p Load kinds.Look mark found → Alike (told_word w) (told_word v)
look_same v w p mark found telling m = same_alike (told_word w) (told_word v) (load_tells v w p kinds.Look mark found m telling)

pub begins_alike : (v w : PortValue) (s : Solo) (d run found : ℕ) → Stands v s → Begins v w d run found → StaysAlike v w
begins_alike v w s d run found stands b =
    let k = b.acks in
    let t0 = alone_telling v stands.alone in
    let ta = moves_telling v k.a _ Load kinds.Look (Some marks.Turn) k.asked k.marked ∙ t0 in
    let tb = moves_telling k.a k.b _ Load kinds.Look None k.flushed k.looked ∙ ta in
    let tc = came_telling k.b b.acked (heeds_came (nat_lt k.asked k.flushed) k.b b.acked k.heeds) ∙ tb in
    let td = moves_telling b.acked b.looked _ Load kinds.Look None run b.running ∙ tc in
    record {
      came = begins_came v w b;
      words = alike_trans (told_word w) (told_word b.looked) (told_word v) (look_same b.looked w (Life d) None found td b.lives)
          (alike_trans (told_word b.looked) (told_word b.acked) (told_word v) (look_same b.acked b.looked _ None run tc b.running)
          (alike_trans (told_word b.acked) (told_word k.b) (told_word v) (heeds_alike (nat_lt k.asked k.flushed) k.b b.acked tb k.heeds)
          (alike_trans (told_word k.b) (told_word k.a) (told_word v) (look_same k.a k.b _ None k.flushed ta k.looked) (look_same v k.a _ (Some marks.Turn) k.asked t0 k.marked))));
      empty = looked_empty b.looked w (Life d) found (life d) b.lives
          (looked_empty b.acked b.looked _ run (word _ _) b.running
          (heeds_empty (nat_lt k.asked k.flushed) k.b b.acked k.heeds (looked_empty k.a k.b _ k.flushed (word _ _) k.looked (marked_empty v k.a _ marks.Turn k.asked (word _ _) (inl refl) k.marked stands.empty))));
    }

-- ---- an answer ends
pub cut_alike : (v w : PortValue) (s : Solo) (call found : ℕ) → Stands v s → Moves v w Clock Load kinds.Look (Some (marks.Cut call)) found → StaysAlike v w
cut_alike v w s call found stands m =
    record {
      came = moves_came v w Clock Load kinds.Look (Some (marks.Cut call)) found m;
      words = look_same v w Clock (Some (marks.Cut call)) found (alone_telling v stands.alone) m;
      empty = marked_empty v w Clock (marks.Cut call) found clock (inr (call, refl)) m stands.empty;
    }

-- ---- what that moves
module _ (l : Laws) (neither : NeitherLostNorBusy) (v0 : PortValue) (real : (whose v0).domain < length v0.post.machine.page_limit) (e : Elements l neither v0) where
  pub alike_moves : (v w : PortValue) → StaysAlike v w → Moving l neither v0 real e v w
  alike_moves v w on = record { came = on.came; owes = λ s owes. owes_on l.stays v w s on owes; kept = λ Good K keeping s k. keeping.goes_on v w s on k }

  pub settled_moves : (v w : PortValue) (below : Option ℕ) (asked : List Bool) → Settles below v w asked (Ok tt) → Moving l neither v0 real e v w
  settled_moves v w below asked settles =
      record {
        came = settles_came v w asked (Ok tt) settles;
        owes = λ s owes. nothing (settles_clean l.stays neither v w s below asked owes settles);
        kept = λ Good K keeping s k. keeping.goes_on v w s (same_settled l.stays neither v w s below asked (keeping.stands v s k) (keeping.first v s k) settles) k;
      }

  pub unsettled_moves : (v w : PortValue) (below : Option ℕ) (asked : List Bool) (stop : Stop) → Settles below v w asked (Err stop) → Moving l neither v0 real e v w
  unsettled_moves v w below asked stop settles =
      record {
        came = settles_came v w asked (Err stop) settles;
        owes = λ s owes. settles_owes l.stays neither v w s below asked stop owes settles;
        kept = λ Good K keeping s k. absurd (let done = ended_ok l.stays neither v w s below asked (Err stop) (keeping.stands v s k) (keeping.first v s k) settles (plain_of (told_word v)) (described v) in cc);
      }
