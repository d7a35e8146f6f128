-- An entry of a table under the own lock: the steps behind the lock, why they stop, and the hand.
use Rattle.std.proofs.Common.{◌≡◌, ℕ, zero, suc, Bool, true, List, [], ◌∷◌, ◌++◌, None, Result, Ok, Err, IsTrue, refl, ap, ◌∙◌, subst, append-nil, inr, arith}
use Rattle.std.proofs.lemmas.Bool.{and_parts}
use Rattle.xp_words.specs.Entries.{is_slot}
use Rattle.xp_words.specs.KindWords.{kind_fields}
use Rattle.xp_words.specs.Machine.{Machine}
use Rattle.xp_words.specs.declared.kind.PageType.{PageType}
use Rattle.xp_words.specs.declared.kind.PageType.TheVariants as types
use Rattle.xp_words.specs.declared.place.Place.TheVariants.{Kind}
use Rattle.xp_words.specs.declared.reply.Refusal.TheVariants.{Slot}
use Rattle.xp_words.specs.declared.reply.Stop.{Stop}
use Rattle.xp_words.specs.declared.reply.Stop.TheVariants.{Refused}
use Rattle.xp_board.specs.Hands.{refs_to, work_on}
use Rattle.xp_board.specs.Lists.{first_by, times_by}
use Rattle.xp_board.specs.Readings.{is_live_as}
use Rattle.xp_board.specs.Told.{Post, PortValue}
use Rattle.step_maker.specs.Holds.{Rests}
use Rattle.step_maker.specs.Moves.{Came, Met, Moment, Ran}
use Rattle.step_maker.proofs.Coming.{came_post, came_self, met_after, met_before}
use Rattle.step_maker.specs.Answers.{Deed, Serves, Stops}
use Rattle.step_maker.specs.Asked.{NoMore, Request, Within}
use Rattle.step_maker.specs.Finding.{FoundAt}
use Rattle.step_maker.specs.Visits.{Visit, Does, visits}
use Rattle.step_maker.proofs.Piecing.{serves_came, serves_inner, stops_inner}
use Rattle.entry_exchange.specs.Asking.{HasExchangeDeeds, ServesExchange, of_exchange}
use Rattle.entry_exchange.specs.Asking as exchanges
use Rattle.entry_locks.specs.Found.{LocksFound}
use Rattle.entry_locks.specs.declared.locking.Locked.TheVariants.{Table}
use Rattle.foreign_map.specs.declared.owners.Owners.{Owners}
use Rattle.partial_state.specs.Levels.{level_type}
use Rattle.mmu_update.specs.Course.{entry_update}
use Rattle.mmu_update.specs.Elements.{HasUpdateDeeds, ServesUpdate, entered, stopped}
use Rattle.mmu_update.specs.declared.element.Element.TheVariants.{Write}
use Rattle.mmu_update.proofs.Asking.{Covers, names_frame, within_exchange, write_covers}
use Rattle.mmu_update.proofs.Serving.{asks}

-- ---- exchanged
deeds_so : (n : Machine) (f level i word : ℕ) (keep : Bool) (answer : Result (Unit {0}) Stop) (ds : List Deed) → HasExchangeDeeds n (entry_update f level i word keep) answer ds →
    HasUpdateDeeds n (Write f i word keep) answer ds
deeds_so n f level i word keep _ _ (exchanges.stored seen old) = entered f i word seen old keep
deeds_so n f level i word keep _ _ (exchanges.stopped e hidden is) = stopped f i word keep e hidden is

module _ {r : Request} {o : Owners} {f i word : ℕ} {answer : Result (Unit {0}) Stop} (covers : Covers r o f i word answer) (level : ℕ) (keep : Bool) (b y w : PortValue) (before : Serves b y r []) where
  came_y : Came b y
  came_y = serves_came b y r [] before

  within : Within b.post.machine b.post.vcpu (of_exchange (entry_update f level i word keep) o answer) (Met y w) r (Met b w)
  within = within_exchange b.post.machine b.post.vcpu covers (Met y w) (Met b w) (λ m x. met_after b y w m came_y x) level keep

  -- the deeds are those of the exchange
  pub exchanged_shows : (a : ServesExchange y w (entry_update f level i word keep) o answer) → HasExchangeDeeds b.post.machine (entry_update f level i word keep) answer a.0 × Serves b w r a.0
  exchanged_shows a = (
    subst (λ (p : Post). HasExchangeDeeds p.machine (entry_update f level i word keep) answer a.0) (came_post b y came_y) a.1,
    subst (λ es. Serves b w r es) (append-nil a.0) (serves_inner b y w r (of_exchange (entry_update f level i word keep) o answer) [] a.0 within before a.2),
  )

  no_refs : (g : ℕ) → y.holdings.refs ≡ [] → refs_to g y.holdings.refs ≡ 0
  unfolding times_by
  no_refs g none = ap (λ rs. refs_to g rs) none

  no_works : (g : ℕ) → b.holdings.works ≡ [] → work_on g b.holdings.works ≡ None
  unfolding first_by
  no_works g none = ap (λ es. work_on g es) none

  no_more_there : Rests b → y.holdings.refs ≡ [] → NoMore r y.holdings b.holdings
  no_more_there rests none g =
      record { refs = λ away. let is = no_refs g none in omega (arith, is); works = λ off. no_works g rests.empty.works; typed = λ off. absurd (let on = covers.entries in let e = off in cc) }

  pub exchanged_stops : (e : Stop) → Rests b → y.holdings.refs ≡ [] → Stops y w (of_exchange (entry_update f level i word keep) o answer) e → Stops b w r e
  exchanged_stops e rests none a = stops_inner b y w r (of_exchange (entry_update f level i word keep) o answer) e within (no_more_there rests none) came_y a

pub exchanged_serves : (o : Owners) (f level i word : ℕ) (keep : Bool) (answer : Result (Unit {0}) Stop) (b y w : PortValue) → Serves b y (asks o f i word keep answer) [] →
    ServesExchange y w (entry_update f level i word keep) o answer → ServesUpdate b w o (Write f i word keep) answer
exchanged_serves o f level i word keep answer b y w before a =
    let shows = exchanged_shows (write_covers o f i word keep answer) level keep b y w before a in (a.0, deeds_so b.post.machine f level i word keep answer a.0 shows.0, shows.1)

-- ---- a slot of a top table
-- the newest of some steps is one that was found
pub found_first : (v w : PortValue) (ms : List Moment) (s : Visit) (rest : List Visit) → Ran v ms w → visits ms ≡ s ∷ rest → FoundAt (Met v w) s.place s.found
unfolding Came
found_first v w [] s rest ran is = absurd cc
found_first v w (m ∷ ms) s rest ran is =
    let place : m.place ≡ s.place = cc in
    let found : m.found ≡ s.found = cc in
    record { moment = m; was = record { from = ran.0; to = w; before = (ms, ran.1); moved = ran.2; after = came_self w }; place = place; word = found }

top_slot : (level i : ℕ) → is_slot (level_type level) i ≡ true → (level_type level ≡ types.L4) × IsTrue (is_slot types.L4 i)
top_slot zero i on = absurd cc
top_slot (suc zero) i on = absurd cc
top_slot (suc (suc zero)) i on = absurd cc
top_slot (suc (suc (suc zero))) i on = absurd cc
top_slot (suc (suc (suc (suc l)))) i on = (refl, on)

live_there : (x : ℕ) (t : PageType) → IsTrue (kind_fields x).validated → (kind_fields x).kind ≡ t → t ≡ types.L4 → IsTrue (is_live_as types.L4 x)
live_there x t live kind top = rw (live, kind, top) refl

-- the lock found the table
pub locked_there : (f level found : ℕ) (u y : PortValue) → LocksFound u y f (Ok (Table level found)) → FoundAt (Met u y) (Kind f) found × IsTrue (kind_fields found).validated × ((kind_fields found).kind ≡ level_type level)
unfolding Does
locked_there f level found u y lock =
    let by = lock.2 in
    let list = by.2 in (
      found_first u y lock.0 _ _ lock.1 (list.list ∙ ap (λ xs. xs ++ list.before) list.next),
      (and_parts _ _ (and_parts _ _ by.0).0).1,
      by.1,
    )

module _ (o : Owners) (f level i word found : ℕ) (keep : Bool) (b u y : PortValue) (lock : LocksFound u y f (Ok (Table level found))) where
  pub slot_stops : (w : PortValue) → Came b u → Came y w → is_slot (level_type level) i ≡ true → Stops b w (asks o f i word keep (Err (Refused (Slot i)))) (Refused (Slot i))
  unfolding Stops
  slot_stops w first later on =
      let top = top_slot level i on in
      let there = locked_there f level found u y lock in
      let m = there.0.moment in
      let met = met_before b y w m (met_after b u y m first there.0.was) later in (
        top.1,
        inr (
          f,
          found,
          names_frame b.post.machine b.post.vcpu (write_covers o f i word keep (Err (Refused (Slot i)))) (Met b w),
          record { moment = m; was = met; place = there.0.place; word = there.0.word },
          live_there found (level_type level) there.1 there.2 top.0,
          refl,
        ),
      )
