-- An update by address as a whole: it led to no table; or to one, whose entry was exchanged or not.
use Rattle.std.proofs.Common.{◌≡◌, ℕ, false, [], Some, Result, Ok, Err, refl, sym, ap, ◌∙◌, subst, append-nil, arith}
use Rattle.xp_words.specs.declared.reply.Stop.{Stop}
use Rattle.xp_board.specs.Hands.{refs_to, typed_hand, work_on}
use Rattle.xp_board.specs.Told.{Post, PortValue}
use Rattle.step_maker.specs.Holds.{Rests, Same, quiet}
use Rattle.step_maker.specs.Moves.{Came, Met}
use Rattle.step_maker.proofs.Coming.{came_post, came_trans, met_after}
use Rattle.step_maker.specs.Answers.{Serves, Stops, missed}
use Rattle.step_maker.specs.Asked.{NoMore, Request}
use Rattle.step_maker.proofs.Piecing.{same_request, serves_came, serves_then, stops_inner}
use Rattle.step_maker.proofs.Resting.{same_rests}
use Rattle.entry_exchange.specs.Asking as exchanges
use Rattle.entry_exchange.specs.Asking.{HasExchangeDeeds}
use Rattle.entry_exchange.proofs.Staying.{may_map}
use Rattle.entry_exchange.proofs.Taking.{hides_none}
use Rattle.foreign_map.specs.Owning.{MayMapFor}
use Rattle.foreign_map.specs.declared.owners.Owners.{Owners}
use Rattle.table_words.specs.OldWords.{known_old}
use Rattle.table_words.specs.declared.old_words.OldWord.TheVariants.{First, Second}
use Rattle.tlb_walks.specs.Addresses.{index_of}
use Rattle.xp_preempt.specs.Gates.{Gate}
use Rattle.xp_preempt.proofs.Consulting.{past_as, past_none}
use Rattle.mmu_update.specs.Addresses as ways
use Rattle.mmu_update.specs.Addresses.{Leads, ServesAt, of_at}
use Rattle.mmu_update.specs.Course.{entry_update}
use Rattle.mmu_update.specs.Elements.{LeavesUpdate}
use Rattle.mmu_update.specs.UpdatesAt.{EntersAtBy, UpdatesAtBy}
use Rattle.mmu_update.specs.Writing.{MayBeginElement}
use Rattle.mmu_update.proofs.FewSteps.{updated_few}
use Rattle.mmu_update.proofs.Holding.{leaves_same}
use Rattle.mmu_update.proofs.Leading.{leads_came, leads_free, leads_kind, leads_numbers, leads_same, leads_serves, leads_stops}
use Rattle.mmu_update.proofs.Locking.{each_stop}

-- ---- it led to no table
pub unled : {v w : PortValue} {o : Owners} {va word : ℕ} {e : Stop} {g : Gate} → Rests v → Leads v va w (Err e) → UpdatesAtBy v w o va word g g (Err e)
unled {v} {w} {o} {va} {word} {e} rests leads =
    let n = v.post.machine in
    let kind = leads_kind v w va e leads in
    let r = of_at o va n.frames word (Err e) in
    let same = leads_same v w va (Err e) rests leads in
    let course = ways.unled w e (omega arith) leads in
    past_none kind.1 (record {
      table = n.frames;
      serves = (missed n e, exchanges.stopped e [] (hides_none e), subst (λ ds. Serves v w r ds) (sym (kind.2 n)) (leads_serves v w va r refl (Err e) leads));
      stops = leads_stops v w va r refl e refl leads;
      kinds = kind.0;
      numbers = λ x on. ap Err (leads_numbers v w va e x leads on);
      hand = leaves_same v w (ap quiet same);
      rests = same_rests v w rests same;
      course = course;
      short = updated_few v o va word n.frames w [] (Err e) rests.may.machine course;
    })

-- ---- it led to one
no_more_same : (r : Request) (v u : PortValue) → Same v u → NoMore r u.holdings v.holdings
unfolding typed_hand
no_more_same r v u same f =
    let refs : refs_to f u.holdings.refs ≡ refs_to f v.holdings.refs = ap (λ (q : PortValue). refs_to f q.holdings.refs) same in
    let typed : typed_hand f u.holdings ≡ typed_hand f v.holdings = ap (λ (q : PortValue). typed_hand f q.holdings) same in
    record { refs = λ away. omega (arith, refs); works = λ off. sym (ap (λ (q : PortValue). work_on f q.holdings.works) same) ∙ off; typed = λ off. omega (arith, typed) }

module _ {v u : PortValue} {va table : ℕ} (rests : Rests v) (leads : Leads v va u (Ok table)) where
  same_there : Same v u
  same_there = leads_same v u va (Ok table) rests leads

  came_there : Came v u
  came_there = leads_came v u va (Ok table) leads

  pub begins_there : {o : Owners} → MayMapFor v o → known_old First v.holdings ≡ Some 0 → known_old Second v.holdings ≡ Some 0 → MayBeginElement u o
  begins_there {o} maps room room_too =
      record {
        rests = same_rests v u rests same_there;
        maps = may_map v u o came_there (ap (λ (q : PortValue). q.holdings.turn) same_there) maps;
        room = ap (λ (q : PortValue). known_old First q.holdings) same_there ∙ room;
        room_too = ap (λ (q : PortValue). known_old Second q.holdings) same_there ∙ room_too;
      }

  leaves_from : (w : PortValue) → LeavesUpdate u w → LeavesUpdate v w
  leaves_from w (a, b, leaves) = (a, b, leaves ∙ ap (λ (q : PortValue). quiet (record q { holdings = record q.holdings { old0 = a; old1 = b } })) same_there)

  module _ (w : PortValue) (o : Owners) (word : ℕ) (answer : Result (Unit {0}) Stop) where
    serves_from : ServesAt u w o va table word answer → ServesAt v w o va table word answer
    serves_from (ds, has, a) =
        let r = of_at o va table word answer in (
          ds,
          subst (λ (p : Post). HasExchangeDeeds p.machine (entry_update table 1 (index_of va 1) word false) answer ds) (came_post v u came_there) has,
          subst (λ es. Serves v w r es) (append-nil ds) (serves_then v u w r [] ds (leads_serves v u va r refl (Ok table) leads) a),
        )

    stops_from : (e : Stop) → Stops u w (of_at o va table word answer) e → Stops v w (of_at o va table word answer) e
    stops_from e a =
        let r = of_at o va table word answer in
        stops_inner v u w r r e (same_request v.post.machine v.post.vcpu r (Met u w) (Met v w) (λ m x. met_after v u w m came_there x)) (no_more_same r v u same_there) came_there a

  module _ {w : PortValue} {o : Owners} {word : ℕ} where
    pub led_came : {g h : Gate} {answer : Result (Unit {0}) Stop} → EntersAtBy u w o va table word g h answer → Came v w
    led_came {answer = answer} by = came_trans v u w came_there (serves_came u w (of_at o va table word answer) by.course.serves.0 by.course.serves.2)

    pub led : {g h : Gate} {answer : Result (Unit {0}) Stop} → EntersAtBy u w o va table word g h answer → UpdatesAtBy v w o va word g h answer
    led {answer = answer} by =
        past_as (λ on. on) (λ xs enters.
        let course = ways.led u w xs answer leads enters.course in
        record {
          table = table;
          serves = serves_from w o word answer enters.serves;
          stops = each_stop _ _ (λ e z. stops_from w o word answer e z) answer enters.stops;
          kinds = enters.kinds;
          numbers = λ x on. absurd (let free = leads_free v u va table leads in cc);
          hand = leaves_from w enters.hand;
          rests = enters.rests;
          course = course;
          short = updated_few v o va word table w xs answer rests.may.machine course;
        }) by
