-- A typed reference in hand to a frame whose type an entry of a table in work has too: it is not the last one.
use Rattle.std.proofs.Common.{◌≡◌, ℕ, ◌<◌, ◌≤◌, Bool, true, false, Some, refl, sym, ap, ◌∙◌, subst, arith, ◌+◌, ◌-◌, List, ◌∷◌, Option, None, IsTrue, Result, Ok, Err, IfOk}
use Rattle.xp_words.specs.Entries.{demand_at, below}
use Rattle.xp_words.specs.KindWords.{kind_fields}
use Rattle.xp_words.specs.Machine.{Machine}
use Rattle.xp_words.specs.PageTypes.{is_table}
use Rattle.xp_words.specs.Places.{sizes_of}
use Rattle.xp_words.specs.declared.entry.Demand.TheVariants.{Typed}
use Rattle.xp_words.specs.declared.kind.PageType.{PageType}
use Rattle.xp_words.specs.declared.place.Place.{Place}
use Rattle.xp_board.specs.declared.holdings.Holdings.{Holdings}
use Rattle.xp_board.specs.declared.holdings.Reference.{Reference}
use Rattle.xp_board.specs.declared.holdings.Work.{Work}
use Rattle.xp_board.specs.Hands.{refs_to, typed_hand, typed_owner, typed_to, without_typed, work_on, without_ref}
use Rattle.xp_board.specs.Readings.{kind_at, type_count}
use Rattle.xp_board.specs.Recorded.{entry_demand, held, named_typed, names_typed}
use Rattle.xp_board.specs.Sound.{Sound}
use Rattle.xp_board.specs.Told.{PortValue, Post}
use Rattle.xp_board.proofs.Counted.{entries-part, held_inside, names_typed-typed, typed_hand_is}
use Rattle.xp_board.proofs.KindReadings.{live_count}
use Rattle.xp_board.proofs.ListCounts.{newest_held}
use Rattle.xp_board.proofs.Sums.{hands-part}
use Rattle.xp_board.proofs.WorkFacts.{loaded_asks, work_held, works_facts}
use Rattle.step_maker.specs.Holds.{Holds, still, FlushedHolds, quiet}
use Rattle.frame_words.specs.Freeing.{gave}
use Rattle.frame_words.specs.Refs.{MayPut}
use Rattle.kind_words.proofs.KindHands.{apart_spares, known_first, typed_held, work_here}
use Rattle.kind_words.proofs.Leaving.{without_newest}
use Rattle.frame_types.specs.Lowering.{DropsType}
use Rattle.frame_types.specs.Taking.{gave_type}
use Rattle.frame_types.proofs.Lowered.{type_counted}
use Rattle.level_validate.specs.Giving.{MayGiveBack}
use Rattle.xp_board.specs.declared.holdings.TypedReference.{TypedReference}
use Rattle.xp_board.specs.declared.holdings.Unsettled.{Unsettled}
use Rattle.xp_board.specs.KindSteps.{live_typed}
use Rattle.xp_board.specs.Settling.{is_settled}
use Rattle.step_maker.specs.Moves.{Came}
use Rattle.step_maker.proofs.Coming.{came_post, came_trans}
use Rattle.flush_waits.proofs.Growing.{came_grows}
use Rattle.table_entries.specs.Tops.{IsSettledNow, LookedAnd, Opens, TakesAgain, WorksAtTop, as_it_was, with_recorded}
use Rattle.table_entries.proofs.HandReady.{settled_more}
use Rattle.partial_state.proofs.LevelFacts.{level_type-table}
use Rattle.partial_state.specs.declared.stack.TableWork.{TableWork}
use Rattle.partial_state.specs.Levels.{level_type}
use Rattle.level_validate.specs.Tables.{IsTopReady, Carries}
use Rattle.level_validate.proofs.Opening.{FirstFound, CameOpen}
use Rattle.level_validate.proofs.Pushing.{e, es, looked_hand, looked_only, looked_stands, next, pushed, pushed_lent, pushed_own, reach_again, reach_next, ready_by, recorded_hand, recorded_stands, seen, seen_recorded, seen_table, seen_word}
use Rattle.table_words.proofs.Shedding.{none_unsettled}
use Rattle.xp_words.specs.declared.reply.Stop.{Stop}
use Rattle.xp_words.proofs.Shared.{eq_one as number_one}
use Rattle.partial_state.specs.Stacks.{advanced, left_on_top, IsStack}
use Rattle.table_entries.specs.Between.{TakesNext}
use Rattle.table_entries.specs.declared.entries.Entered.{Entered}
use Rattle.table_entries.specs.Acquiring.{Advanced, TookEntry, TookOn, one_entry_more, table_opened}
use Rattle.std.proofs.lemmas.Result.{IfOk-weaker}
use Rattle.partial_state.specs.Weights.{entry_weight, weight}
use Rattle.partial_state.proofs.WeightFacts.{advanced_gives, inner_fills}
use Rattle.xp_board.specs.declared.holdings.OwnerFound.TheVariants as owners
use Rattle.table_entries.specs.declared.entries.Entered.TheVariants as entered

-- the entry is recorded, and was loaded last
module _ (n : Machine) (s : ℕ) (h : Holdings) (f : ℕ) {e : Work} (here : work_on f h.works ≡ Some e) (table : is_table (kind_fields e.word).kind ≡ true) (i word : ℕ) (recorded : i < e.recorded) (seen : e.seen ≡ Some (record { index = i; word = word })) {g : ℕ} {t : PageType} (asks : demand_at (kind_fields e.word).kind i word ≡ Typed g t) (in_hand : 0 < typed_to g h.typed) where
  pub shared_by : (words : Place → ℕ) (hands : ℕ → Holdings) → s < (sizes_of n).vcpus → Sound n words hands → hands s ≡ h → 2 ≤ named_typed (sizes_of n) words hands g
  shared_by words hands real sound mine =
      let at = subst (λ (u : Holdings). work_on f u.works ≡ Some e) (sym mine) here in
      let k = works_facts n words hands s f e sound real at in
      let all = work_held n words hands s f e k sound.alone real at table in
      let low : i < held (sizes_of n) words hands f = subst (λ y. i < y) (sym all) recorded in
      let inside = held_inside n words hands f i sound.spelled low in
      let one = names_typed-typed g t (entry_demand words f i) (sym (loaded_asks n words hands s f e k i word table seen) ∙ asks) in
      let entry = entries-part (names_typed g) (sizes_of n) words hands f i inside low in
      let part = hands-part (typed_hand g) (sizes_of n) hands s real in
      let typed = typed_hand_is g (hands s) in
      let held : 0 < typed_to g (hands s).typed = subst (λ (u : Holdings). 0 < typed_to g u.typed) (sym mine) in_hand in
      omega (arith, one, entry, part, typed, held)

module _ {v a : PortValue} {f : ℕ} {last : Bool} (d : DropsType v a f last) where
  pub never_last : MayGiveBack v.post.machine v.post.vcpu f v.holdings → last ≡ true → ⊥
  never_last may is =
      let finds = d.lowers.step.finds in
      let two = may.shared finds.words finds.hands finds.real finds.sound finds.mine in
      let all = finds.sound.counts.types f in
      let fields : kind_at finds.words f ≡ kind_fields d.found = ap kind_fields finds.word in
      let count : type_count (kind_at finds.words f) ≡ (kind_fields d.found).number = ap type_count fields ∙ live_count (kind_fields d.found) d.lowers.live in
      let one = number_one (kind_fields d.found).number (sym d.counts ∙ is) in
      absurd (omega (arith, two, all, count, one))

  module _ (more : last ≡ false) where
    pub back_puts : MayPut f a.holdings
    back_puts =
        let hand = type_counted v a f last d more in
        record {
          held = subst (λ rs. 0 < refs_to f rs) (sym (ap (λ (q : PortValue). q.holdings.refs) hand)) (newest_held f (record { frame = f; owner = typed_owner f v.holdings }) v.holdings.refs refl);
          spares = apart_spares f a.holdings (ap (λ (q : PortValue). work_on f q.holdings.works) hand ∙ d.lowers.apart);
        }

    pub back_given : (w : PortValue) → Holds a w (gave f a.holdings) → Holds v w (gave_type f v.holdings)
    back_given w put =
        put ∙ ap (λ (q : PortValue). still (record q { holdings = gave f q.holdings })) (type_counted v a f last d more)
        ∙ ap (λ rs. still (record v { holdings = record v.holdings { refs = rs; typed = without_typed f v.holdings.typed } }))
        (without_newest (λ (y : Reference). y.frame) f (record { frame = f; owner = typed_owner f v.holdings }) v.holdings.refs _ refl refl)

-- An entry of the innermost table was taken, or looked at again: how the tables stand then.
pub back_one : (n : ℕ) → (n ≡ 0 → ⊥) → n - 1 + 1 ≡ n
back_one n some = omega (arith, some)

module _ {v u : PortValue} (w : PortValue) {owner : ℕ} {t : TableWork} {ts : List TableWork} (s : Carries v u owner (t ∷ ts)) (came : Came u w) (first : FirstFound u) where
  -- ---- looked at alone
  pub after_look : (i : ℕ) → LookedAnd u w t.frame i as_it_was → Carries v w owner (t ∷ ts)
  after_look i l = looked_stands w s came first i l.0 (looked_only w s came first i l.0 l.1)

  pub after_settled : (i : ℕ) → LookedAnd u w t.frame i as_it_was → IsSettledNow w t.frame → IsTopReady w
  after_settled i l now =
      let x = seen w s came first i l.0 in
      let xs = es w s came first i l.0 in
      let are : w.holdings.works ≡ x ∷ xs = ap (λ (q : PortValue). q.holdings.works) (looked_only w s came first i l.0 l.1) in
      ready_by w x xs are (now x (work_here t.frame x xs w.holdings.works (seen_table w s came first i l.0).frame are))

  -- ---- recorded
  pub after_record : (r : Option Unsettled) → 0 < 512 - t.done → LookedAnd u w t.frame t.done (λ word h. with_recorded t.frame (t.done + 1) r h) → Carries v w owner (record t { done = t.done + 1 } ∷ ts)
  after_record r left l = recorded_stands w s came first t.done l.0 r refl left (recorded_hand w s came first t.done l.0 r l.1)

  pub after_record_ready : LookedAnd u w t.frame t.done (λ word h. with_recorded t.frame (t.done + 1) None h) → IsTopReady w
  unfolding next
  after_record_ready l =
      let x = next w s came first t.done l.0 None in
      let xs = es w s came first t.done l.0 in
      ready_by w x xs (ap (λ (q : PortValue). q.holdings.works) (recorded_hand w s came first t.done l.0 None l.1)) (none_unsettled (sizes_of w.post.machine) w.holdings x (none_next l.0))
    where
      none_next : (word : ℕ) → (next w s came first t.done word None).unsettled ≡ None
      none_next word = refl

  -- ---- another table came into work
  pub after_next : (g progress : ℕ) (own : Bool) → t.done < 512 → IsTopReady u → CameOpen u g (below (level_type t.level)) progress → Opens u w t.frame t.done (level_type t.level) g owner progress own false →
      Carries v w owner (pushed t g progress own false ∷ record t { done = t.done + 1 } ∷ ts)
  after_next g progress true left ready c o =
      pushed_own w s came first t.done o.word (t.done + 1) false o.work c (omega (arith, left)) o.frame o.in_work o.kind o.flushed o.recorded refl o.since o.taken
      (reach_next w s came first t.done o.word g progress true refl ready o.asks) o.hand
  after_next g progress false left ready c o =
      pushed_lent w s came first t.done o.word (t.done + 1) false o.work c (omega (arith, left)) o.frame o.in_work o.kind o.flushed o.recorded o.since o.aside
      (reach_next w s came first t.done o.word g progress false refl ready o.asks) o.hand

  pub after_again : (i g progress : ℕ) → i + 1 ≡ t.done → CameOpen u g (below (level_type t.level)) progress → Opens u w t.frame i (level_type t.level) g owner progress false false → Carries v w owner (pushed t g progress false true ∷ t ∷ ts)
  after_again i g progress at c o =
      pushed_lent w s came first i o.word t.done true o.work c s.stack.0.done o.frame o.in_work o.kind o.flushed o.recorded o.since o.aside
      (reach_again w s came first i o.word g progress false at o.asks) o.hand

-- none of the new table is recorded: it is ready
works_opened : (b : Bool) (u w : PortValue) (f i : ℕ) (k : PageType) (g owner progress : ℕ) → (o : Opens u w f i k g owner progress b false) → (xs : List Work) × (w.holdings.works ≡ o.work ∷ xs)
works_opened true u w f i k g owner progress o = (_, ap (λ (q : PortValue). q.holdings.works) o.hand)
works_opened false u w f i k g owner progress o = (_, ap (λ (q : PortValue). q.holdings.works) o.hand)

pub fresh_ready : (u w : PortValue) (f i : ℕ) (k : PageType) (g owner progress : ℕ) (own : Bool) → Opens u w f i k g owner progress own false → progress ≡ 0 → IsTopReady w
fresh_ready u w f i k g owner progress own o zero =
    let xs = works_opened own u w f i k g owner progress o in
    ready_by w o.work xs.0 xs.1 (none_unsettled (sizes_of w.post.machine) w.holdings o.work (o.settled zero))

-- ---- it was live: one typed reference more
module _ {v u x : PortValue} {owner : ℕ} {t : TableWork} {ts : List TableWork} (s : Carries v u owner (t ∷ ts)) (came : Came u x) (first : FirstFound u) {i g : ℕ} (at : i + 1 ≡ t.done) (k : TakesAgain u x t.frame i (level_type t.level) g owner) where
  abbrev more : TypedReference
  more = live_typed g (below (level_type t.level)) (owners.Of owner)

  top_seen : Work
  top_seen = seen x s came first i k.word

  top_others : List Work
  top_others = es x s came first i k.word

  taken_hand : FlushedHolds u x (record u.holdings { typed = more ∷ u.holdings.typed; works = top_seen ∷ top_others })
  unfolding top_seen top_others
  taken_hand =
      k.hand
      ∙ ap (λ h. quiet (record u { holdings = record h { refs = without_ref g (record { frame = g; owner = owners.Of owner } ∷ u.holdings.refs); typed = more ∷ u.holdings.typed } })) (looked_hand x s came first i k.word)
      ∙ ap (λ rs. quiet (record u { holdings = record u.holdings { refs = rs; typed = more ∷ u.holdings.typed; works = top_seen ∷ top_others } }))
      (without_newest (λ (y : Reference). y.frame) g (record { frame = g; owner = owners.Of owner }) u.holdings.refs _ refl refl)

  typed_are : x.holdings.typed ≡ more ∷ u.holdings.typed
  typed_are = ap (λ (q : PortValue). q.holdings.typed) taken_hand

  in_hand : 0 < typed_to g x.holdings.typed
  in_hand = subst (λ ys. 0 < typed_to g ys) (sym typed_are) (typed_held g more u.holdings.typed refl)

  pub taken_gives : MayGiveBack x.post.machine x.post.vcpu g x.holdings
  unfolding top_seen top_others
  taken_gives =
      let is = seen_table x s came first i k.word in
      let are : x.holdings.works ≡ top_seen ∷ top_others = ap (λ (q : PortValue). q.holdings.works) taken_hand in
      let all = seen_recorded x s came first i k.word in
      record {
        drops = record { in_hand = in_hand; kind = below (level_type t.level); live = known_first (sizes_of x.post.machine) g (below (level_type t.level)) (owners.Of owner) u.holdings.typed x.holdings typed_are };
        shared = shared_by x.post.machine x.post.vcpu x.holdings t.frame (work_here t.frame top_seen top_others x.holdings.works is.frame are) (ap is_table is.kind ∙ level_type-table t.level s.stack.0.low) i k.word
            (omega (arith, all, at)) (seen_word x s came first i k.word) (ap (λ y. demand_at y i k.word) is.kind ∙ k.asks) in_hand;
      }

  module _ (w : PortValue) (gives : Holds x w (gave_type g x.holdings)) (on : Came x w) where
    given_hand : FlushedHolds u w (record u.holdings { works = top_seen ∷ top_others })
    given_hand =
        ap quiet gives ∙ ap (λ (q : PortValue). quiet (record q { holdings = gave_type g q.holdings })) taken_hand
        ∙ ap (λ ys. quiet (record u { holdings = record u.holdings { typed = ys; works = top_seen ∷ top_others } })) (without_newest (λ (y : TypedReference). y.frame) g more u.holdings.typed _ refl refl)

    pub taken_stands : Carries v w owner (t ∷ ts)
    unfolding top_seen top_others seen e es
    taken_stands = looked_stands w s (came_trans u x w came on) first i k.word given_hand

    pub taken_ready : IsSettledNow x t.frame → IsTopReady w
    unfolding top_seen top_others
    taken_ready now =
        let is = seen_table x s came first i k.word in
        let are : x.holdings.works ≡ top_seen ∷ top_others = ap (λ (q : PortValue). q.holdings.works) taken_hand in
        ready_by w top_seen top_others (ap (λ (q : PortValue). q.holdings.works) given_hand)
        (subst (λ (p : Post). IsTrue (is_settled (sizes_of p.machine) w.holdings top_seen)) (sym (came_post x w on))
        (settled_more (sizes_of x.post.machine) x.holdings w.holdings top_seen (came_grows x w on) (now top_seen (work_here t.frame top_seen top_others x.holdings.works is.frame are))))

-- The next entry of the innermost table is taken: what that is of the course, by the answer.
-- ---- the call that takes it, for the type of the table's level
pub next_of : {v w : PortValue} {owner : ℕ} {t : TableWork} {k : PageType} {a b : Result Entered Stop} → k ≡ level_type t.level → WorksAtTop t.frame (level_type t.level) t.done v.holdings → a ≡ b →
    TakesNext v w t.frame t.done owner k a → TookEntry v w owner t b
next_of {v} {w} {owner} {t} {k} {a} {b} is top same e =
    let f = subst (λ (j : PageType). TakesNext v w t.frame t.done owner j b) is (subst (λ r. TakesNext v w t.frame t.done owner k r) same e) in
    record { top = top; found = f.found; plain = f.plain; serves = f.serves; stops = f.stops; shows = f.shows; hand = f.hand }

-- ---- from a stack of which that table is the top
module _ (owner : ℕ) (v : PortValue) {t : TableWork} {ts stack : List TableWork} (top : stack ≡ t ∷ ts) (left : 0 < left_on_top stack) where
  room : t.done < 512
  room =
      let l : 0 < 512 - t.done = subst (λ (xs : List TableWork). 0 < left_on_top xs) top left in
      omega (arith, l)

  advanced_is : (us : List TableWork) → us ≡ advanced stack → us ≡ one_entry_more t ∷ ts
  advanced_is us is = is ∙ ap advanced top

  pub stopped_next : (w : PortValue) (answer : Result Bool Stop) (e : Stop) → answer ≡ Err e → TookEntry v w owner t (Err e) → Advanced owner v stack w stack answer
  stopped_next w answer e is took =
      subst (λ (r : Result Bool Stop). Advanced owner v stack w stack r) (sym is) (subst (λ (xs : List TableWork). Advanced owner v xs w xs (Err e)) (sym top) (Advanced.stopped v w t ts e room took))

  pub unsettled_next : (w : PortValue) (us : List TableWork) (e : Stop) → us ≡ advanced stack → TookEntry v w owner t (Ok (entered.Unsettled e)) → Advanced owner v stack w us (Err e)
  unsettled_next w us e is took =
      subst (λ (xs : List TableWork). Advanced owner v xs w us (Err e)) (sym top)
      (subst (λ (xs : List TableWork). Advanced owner v (t ∷ ts) w xs (Err e)) (sym (advanced_is us is)) (Advanced.unsettled v w t ts e room took))

  -- it is recorded
  pub recorded_next : (w : PortValue) (us : List TableWork) → us ≡ advanced stack → TookEntry v w owner t (Ok entered.Recorded) → Advanced owner v stack w us (Ok true)
  recorded_next w us is took =
      subst (λ (xs : List TableWork). Advanced owner v xs w us (Ok true)) (sym top)
      (subst (λ (xs : List TableWork). Advanced owner v (t ∷ ts) w xs (Ok true)) (sym (advanced_is us is)) (Advanced.recorded v w t ts room took))

  -- the table that it names is taken on, and answers so
  by_answer : (u w : PortValue) (f progress : ℕ) (own : Bool) → TookEntry v u owner t (Ok (entered.Opened f progress own)) → (us : List TableWork) (answer : Result Bool Stop) → TookOn owner u (table_opened t f progress own false ∷ one_entry_more t ∷ ts) w us answer →
      Advanced owner v (t ∷ ts) w us answer
  by_answer u w f progress own took us (Ok done) on = Advanced.opened v u w t ts us f progress own done room took on
  by_answer u w f progress own took us (Err e) on = Advanced.cut_off v u w t ts us f progress own e room took on

  pub opened_next : (u w : PortValue) (f progress : ℕ) (own : Bool) (answer : Result Bool Stop) (more next us : List TableWork) → more ≡ advanced stack → next ≡ table_opened t f progress own false ∷ more →
      TookEntry v u owner t (Ok (entered.Opened f progress own)) → TookOn owner u next w us answer → Advanced owner v stack w us answer
  opened_next u w f progress own answer more next us is pushed took on =
      let now : next ≡ table_opened t f progress own false ∷ one_entry_more t ∷ ts = pushed ∙ ap (λ (xs : List TableWork). table_opened t f progress own false ∷ xs) (advanced_is more is) in
      subst (λ (xs : List TableWork). Advanced owner v xs w us answer) (sym top) (by_answer u w f progress own took us answer (subst (λ (xs : List TableWork). TookOn owner u xs w us answer) now on))

-- What is left to do for the tables in work, where the way goes on into a table that an entry of the innermost one names.
-- the entry was recorded before
pub again_lowers : {A E : Type 0} (r : Result A E) (w : ℕ) (u t : TableWork) (ts old new : List TableWork) → IsStack new → old ≡ t ∷ ts → new ≡ u ∷ old →
    IfOk r (λ _. w < weight new + entry_weight u.level) → IfOk r (λ _. w < weight old + entry_weight t.level)
again_lowers r w u t ts old new is was now less =
    let all = now ∙ ap (λ xs. u ∷ xs) was in
    let fills = inner_fills u t ts (subst (λ xs. IsStack xs) all is) in
    let old_weight = ap (λ xs. weight xs) was in
    let new_weight = ap (λ xs. weight xs) all in
    IfOk-weaker r (λ _. w < weight new + entry_weight u.level) (λ _. w < weight old + entry_weight t.level)
    (λ _ b. omega (arith, b, fills, old_weight, new_weight)) less

-- or it is done with only now
pub next_lowers : {A E : Type 0} (r : Result A E) (w : ℕ) (u t : TableWork) (ts old new : List TableWork) → IsStack new → old ≡ t ∷ ts → new ≡ u ∷ advanced old → 0 < left_on_top old →
    IfOk r (λ _. w < weight new + entry_weight u.level) → IfOk r (λ _. w < weight old)
next_lowers r w u t ts old new is was now room less =
    let gone = record t { done = t.done + 1 } in
    let all = now ∙ ap (λ xs. u ∷ advanced xs) was in
    let fills = inner_fills u gone ts (subst (λ xs. IsStack xs) all is) in
    let gives = advanced_gives t ts (subst (λ xs. 0 < left_on_top xs) was room) in
    let old_weight = ap (λ xs. weight xs) was in
    let new_weight = ap (λ xs. weight xs) all in
    IfOk-weaker r (λ _. w < weight new + entry_weight u.level) (λ _. w < weight old)
    (λ _ b. omega (arith, b, fills, gives, old_weight, new_weight)) less
