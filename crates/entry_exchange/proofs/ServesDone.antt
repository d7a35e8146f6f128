-- An exchange, its parts one behind the other from the look at the entry on: by its answer, what a guest sees of it, and why it is not done.
use Rattle.std.proofs.Common.{◌≡◌, ℕ, Bool, true, false, List, [], ◌++◌, Option, Some, None, Result, Ok, refl, ap, ◌∙◌, subst, append-nil, arith, inl, ◌⊎◌, ◌∷◌, Err, sym, inr}
use Rattle.xp_words.specs.Machine.{Machine}
use Rattle.xp_words.specs.declared.entry.Demand.{Demand}
use Rattle.xp_words.specs.declared.kind.PageType.{PageType}
use Rattle.xp_words.specs.declared.place.Place.TheVariants.{Cell, Kind}
use Rattle.xp_words.specs.declared.reply.Stop.{Stop}
use Rattle.xp_board.specs.declared.holdings.Lock.{Lock}
use Rattle.xp_board.specs.declared.holdings.Reference.{Reference}
use Rattle.xp_board.specs.declared.step.Act.TheVariants.{Load, Cas, Store}
use Rattle.xp_board.specs.declared.step.StepKind.TheVariants as kinds
use Rattle.xp_board.specs.Hands.{lock_on, refs_to, work_on}
use Rattle.xp_board.specs.Lists.{times_by}
use Rattle.xp_board.specs.Told.{PortValue, Post}
use Rattle.xp_board.proofs.ListCounts.{first_by-cons_here}
use Rattle.step_maker.specs.Moves.{Came, Met, Moves}
use Rattle.step_maker.proofs.Coming.{met_after, met_before, moment_of, moves_came, moves_met, came_post, came_self, came_trans}
use Rattle.step_maker.specs.Answers.{Deed, Serves, Stops, Misses, SetsEntry, missed}
use Rattle.step_maker.specs.Asked.{Asked, IsAsked, IsDemandOf, NoMore, Request, Within, of_back, demand_held, demanded, entry_owner}
use Rattle.step_maker.specs.Finding.{Finding, FoundWith, FoundAt}
use Rattle.step_maker.proofs.Piecing.{moves_serves, serves_back, serves_inner, stops_inner, serves_came, stops_before}
use Rattle.foreign_map.specs.declared.owners.Owners.{Owners}
use Rattle.kind_words.proofs.KindHands.{no_work}
use Rattle.partial_state.specs.Levels.{level_type}
use Rattle.entry_exchange.specs.declared.exchanging.EntryUpdate.{EntryUpdate}
use Rattle.entry_exchange.specs.Asking.{of_exchange, IsHidden, ServesExchange, stopped, stored}
use Rattle.entry_exchange.specs.Course.{SawEntry, new_demand, PutEntry, PutsNew, old_demand}
use Rattle.entry_exchange.specs.Holding.{HoldsTableLock, owner_at, LeavesDemand, holding}
use Rattle.entry_exchange.specs.Parts.{HoldsSeen, IsOfLevel}
use Rattle.entry_exchange.specs.Serving.{AsksDemand, ServesPut, ServesTaken, of_demand, put_deeds, ServesDemandBehind, ServesGiven, StopsPut, of_given}
use Rattle.entry_exchange.specs.Words.{word_kept}
use Rattle.entry_exchange.proofs.ServesWithin.{asks_by, asks_new, asks_table_named, within_taking, owner_lower, within_giving}
use Rattle.entry_exchange.proofs.ServesWords.{kept_asks}
use Rattle.xp_words.specs.declared.entry.Demand.TheVariants.{Bad, Nothing, Read, Typed}
use Rattle.xp_board.specs.declared.holdings.Holdings.{Holdings}
use Rattle.xp_board.specs.declared.step.Act.{Act}
use Rattle.level_release.specs.Asking.{is_due_answer}
use Rattle.entry_exchange.specs.Course as courses
use Rattle.entry_exchange.proofs.Taking.{hides_none}
use Rattle.xp_words.specs.Entries.{demand_at}
use Rattle.xp_words.specs.declared.reply.Refusal.TheVariants.{Reserved}
use Rattle.xp_words.specs.declared.reply.Stop.TheVariants.{Refused}
use Rattle.xp_board.proofs.Sums.{when_eq}
use Rattle.step_maker.specs.Licences.{IsBadUnder, IsNewWord}

-- ---- an exchange that was lost is a pause
put_hides : (v w : PortValue) (f i seen new : ℕ) (keep : Bool) (e : Stop) → PutEntry v w f i seen new keep (Err e) → (ds : List Deed) → (ds ≡ []) ⊎ ((g : ℕ) × (ds ≡ Misses (Kind g) ∷ [])) → IsHidden e ds
put_hides v w f i seen new keep e (courses.lost found off try) ds hidden = hidden

-- ---- the frames that the old word asks, as the entry was under the own lock
-- the entry was found by one step there, with that in hand
put_moves : (v w : PortValue) (f i seen new old : ℕ) (keep : Bool) → PutEntry v w f i seen new keep (Ok old) → (act : Act) × Moves v w (Cell f i) act kinds.Cell None old
put_moves v w f i seen new old keep (courses.stored was try) = (Store new, try)
put_moves v w f i seen new old keep (courses.exchanged try) = (Cas seen new, try)

hand_works : (d : Demand) (owner : ℕ) (h : Holdings) → (holding d owner h).works ≡ h.works
hand_works Nothing owner h = refl
hand_works Bad owner h = refl
hand_works (Read g) owner h = refl
hand_works (Typed g t) owner h = refl

hand_locks : (d : Demand) (owner : ℕ) (h : Holdings) → (holding d owner h).locks ≡ h.locks
hand_locks Nothing owner h = refl
hand_locks Bad owner h = refl
hand_locks (Read g) owner h = refl
hand_locks (Typed g t) owner h = refl

-- ---- the lock
module _ (v : PortValue) (f level owner : ℕ) (holds : HoldsTableLock v f level owner) where
  pub lock_there : lock_on f v.holdings.locks ≡ Some holds.lock
  lock_there = ap (λ ls. lock_on f ls) holds.locks ∙ first_by-cons_here (λ (l : Lock). l.frame) f holds.lock [] holds.frame

-- ---- from the look at the entry on
module _ (a b : PortValue) (x : EntryUpdate) (o : Owners) (seen : ℕ) (holds : HoldsTableLock a x.table x.level o.tables) (saw : SawEntry a b x.table x.index seen) where
  abbrev n : Machine
  n = a.post.machine

  abbrev s : ℕ
  s = a.post.vcpu

  abbrev new : ℕ
  new = word_kept x.keep seen x.word

  abbrev owner : ℕ
  owner = owner_at x.level o.tables o.frames

  pub came_look : Came a b
  came_look = moves_came a b (Cell x.table x.index) Load kinds.Look None seen saw

  met_look : (w : PortValue) → Came b w → Met a w (moment_of a (Cell x.table x.index) Load kinds.Look None seen)
  met_look w came = met_before a b w _ (moves_met a b (Cell x.table x.index) Load kinds.Look None seen saw) came

  module _ (answer : Result (Unit {0}) Stop) where
    abbrev whole : Request
    whole = of_exchange x o answer

    pub look_serves : Serves a b whole []
    look_serves = moves_serves a b whole (Cell x.table x.index) Load kinds.Look None seen saw (inl refl)

    pub asks_table_in : (F : Finding) → IsAsked n s whole F x.table
    asks_table_in F = asks_table_named n s x o answer F

    -- the frames that the new word asks
    module _ (w : PortValue) (came : Came b w) where
      asks_wanted : (d : Demand) → d ≡ new_demand x seen → (g : ℕ) (k : Option PageType) → IsDemandOf g k (Some d) → Asked n s whole (Met a w) g owner k
      unfolding moment_of
      asks_wanted d is =
          asks_new n s x o answer (Met a w) holds.lock (moment_of a (Cell x.table x.index) Load kinds.Look None seen) (met_look w came) (lock_there a x.table x.level o.tables holds) holds.kind d
          (is ∙ kept_asks (level_type x.level) x.index x.keep seen x.word)

      pub demand_asked : (d : Demand) → d ≡ new_demand x seen → AsksDemand n s whole (Met a w) d
      demand_asked d is = asks_by n s whole (Met a w) owner d (asks_wanted d is)

    -- ---- the lock goes off
    pub unlocked_serves : (y w : PortValue) (ds : List Deed) → Serves a y whole ds → Serves y w (of_back x.table) [] → Serves a w whole ds
    unlocked_serves y w ds before gives = serves_back a y w whole ds [] before x.table (asks_table_in (Met a w)) gives

    -- ---- what the new word asks
    module _ (d : Demand) (is : d ≡ new_demand x seen) (level : IsOfLevel x.level d) (y : PortValue) (came : Came b y) where
      taking_in : (rose : Bool) → (rose ≡ true → whole.rose ≡ true) → Within n s (of_demand d owner o.frames rose) (Met b y) whole (Met a y)
      taking_in rose rises = within_taking n s x o answer (Met a y) d (Met b y) (λ m k. met_after a b y m came_look k) rose level (asks_wanted y came d is) rises

      pub take_serves : (rose : Bool) (ds : List Deed) → (rose ≡ true → whole.rose ≡ true) → Serves b y (of_demand d owner o.frames rose) ds → Serves a y whole ds
      take_serves rose ds rises serves =
          subst (λ es. Serves a y whole es) (append-nil ds) (serves_inner a b y whole (of_demand d owner o.frames rose) [] ds (taking_in rose rises) look_serves serves)

      -- with nothing in hand but the lock it has no more than at the look
      none_to : (g : ℕ) (rs : List Reference) → rs ≡ [] → refs_to g rs ≡ 0
      unfolding times_by
      none_to g rs none = ap (λ (ys : List Reference). refs_to g ys) none

      no_more : HoldsSeen b x.table x.level o.tables x.index seen → NoMore whole b.holdings a.holdings
      no_more locked g =
          record {
            refs = λ away. let none = none_to g b.holdings.refs locked.holds.others.refs in omega (arith, none);
            works = λ away. no_work g a.holdings.works holds.others.works;
            typed = λ off. absurd cc;
          }

      pub take_stops : HoldsSeen b x.table x.level o.tables x.index seen → (rose : Bool) (e : Stop) → (rose ≡ true → whole.rose ≡ true) → Stops b y (of_demand d owner o.frames rose) e → Stops a y whole e
      take_stops locked rose e rises stops = stops_inner a b y whole (of_demand d owner o.frames rose) e (taking_in rose rises) (no_more locked) came_look stops

      -- it was taken
      pub taken_serves : ServesTaken b y d owner o.frames (Ok tt) → Serves a y whole []
      taken_serves taken =
          take_serves false [] (λ e. absurd cc)
          (subst (λ ds. Serves b y (of_demand d owner o.frames false) ds) (ap (λ (ds : List Deed). ds ++ []) taken.may) taken.serves)

      -- and the word put there, or not
      module _ (before : Serves a y whole []) (z : PortValue) where
        pub put_serves : (put : Result ℕ Stop) → ServesPut y z x.table x.index new put → Serves a z whole (put_deeds y.post.machine x.table x.index new put ++ [])
        put_serves put serves = serves a whole [] before (asks_table_in (Met a y))

  -- ---- the new word asks what no entry may
  module _ (w : PortValue) (gives : Serves b w (of_back x.table) []) where
    abbrev stop : Stop
    stop = Refused (Reserved x.table x.index new)

    pub bad_serves : ServesExchange a w x o (Err stop)
    bad_serves = ([], stopped stop [] refl, unlocked_serves (Err stop) b w [] (look_serves (Err stop)) gives)

    found_look : FoundAt (Met a w) (Cell x.table x.index) seen
    unfolding moment_of
    found_look = record { moment = moment_of a (Cell x.table x.index) Load kinds.Look None seen; was = met_look w (serves_came b w (of_back x.table) [] gives); place = refl; word = refl }

    is_new : (keep : Bool) → IsNewWord (Met a w) x.table x.index x.word (word_kept keep seen x.word)
    is_new true = inr (seen, found_look, refl)
    is_new false = inl refl

    module _ (bad : new_demand x seen ≡ Bad) where
      bad_under : IsBadUnder x.index new (lock_on x.table a.holdings.locks)
      bad_under =
          subst (λ e. IsBadUnder x.index new e) (sym (lock_there a x.table x.level o.tables holds))
          (ap (λ t. demand_at t x.index new) holds.kind ∙ bad)

      pub bad_stops : Stops a w (of_exchange x o (Err stop)) stop
      unfolding Stops moment_of
      bad_stops =
          inr (x.word, moment_of a (Cell x.table x.index) Load kinds.Look None seen, when_eq x.table x.table refl, refl, refl, met_look w (serves_came b w (of_back x.table) [] gives), bad_under, is_new x.keep)

  -- ---- it asks the same, and the word alone is put there
  module _ (z w : PortValue) (gives : Serves z w (of_back x.table) []) where
    put_whole : (answer : Result (Unit {0}) Stop) (put : Result ℕ Stop) → ServesPut b z x.table x.index new put → Serves a w (of_exchange x o answer) (put_deeds a.post.machine x.table x.index new put)
    put_whole answer put serves =
        let came = came_look in
        let there = serves a (of_exchange x o answer) [] (look_serves answer) (asks_table_in answer (Met a b)) in
        let here = subst (λ (p : Post). Serves a z (of_exchange x o answer) (put_deeds p.machine x.table x.index new put ++ [])) (came_post a b came) there in
        unlocked_serves answer z w (put_deeds a.post.machine x.table x.index new put)
        (subst (λ ds. Serves a z (of_exchange x o answer) ds) (append-nil (put_deeds a.post.machine x.table x.index new put)) here) gives

    pub same_serves : (old : ℕ) → ServesPut b z x.table x.index new (Ok old) → ServesExchange a w x o (Ok tt)
    same_serves old serves = (SetsEntry x.table x.index old new ∷ [], stored seen old, put_whole (Ok tt) (Ok old) serves)

    pub unput_serves : (e : Stop) → ServesPut b z x.table x.index new (Err e) → ServesExchange a w x o (Err e)
    unput_serves e serves = (missed a.post.machine e, stopped e [] (hides_none e), put_whole (Err e) (Err e) serves)

    pub unput_stops : (e : Stop) → StopsPut b z x.table x.index seen e → Stops a w (of_exchange x o (Err e)) e
    unput_stops e stops =
        stops_before a z w (of_exchange x o (Err e)) e
        (stops a b (of_exchange x o (Err e)) saw (came_self b) (asks_table_in (Err e) (Met a b)))
        (serves_came z w (of_back x.table) [] gives)

  -- ---- it asks something else
  module _ (locked : HoldsSeen b x.table x.level o.tables x.index seen) where
    -- ---- it is not taken
    module _ (e : Stop) (d : Demand) (is : d ≡ new_demand x seen) (level : IsOfLevel x.level d) (y w : PortValue) (gives : Serves y w (of_back x.table) []) where
      pub untaken_serves : ServesTaken b y d owner o.frames (Err e) → ServesExchange a w x o (Err e)
      untaken_serves taken =
          let came = serves_came b y (of_demand d owner o.frames (is_due_answer {A = Unit {0}} (Err e))) (taken.hidden ++ missed b.post.machine e) taken.serves in
          let all = take_serves (Err e) d is level y came (is_due_answer {A = Unit {0}} (Err e)) (taken.hidden ++ missed b.post.machine e) (λ on. on) taken.serves in
          let here = subst (λ (p : Post). Serves a y (of_exchange x o (Err e)) (taken.hidden ++ missed p.machine e)) (came_post a b came_look) all in
          (taken.hidden ++ missed a.post.machine e, stopped e taken.hidden taken.may, unlocked_serves (Err e) y w (taken.hidden ++ missed a.post.machine e) here gives)

      pub untaken_stops : Came b y → Stops b y (of_demand d owner o.frames (is_due_answer {A = Unit {0}} (Err e))) e → Stops a w (of_exchange x o (Err e)) e
      untaken_stops came stops =
          stops_before a y w (of_exchange x o (Err e)) e (take_stops (Err e) d is level y came locked (is_due_answer {A = Unit {0}} (Err e)) e (λ on. on) stops)
          (serves_came y w (of_back x.table) [] gives)

    -- ---- what it asks is in hand
    module _ (d : Demand) (is : d ≡ new_demand x seen) (level : IsOfLevel x.level d) (y z : PortValue) (came_y : Came b y) (taken : ServesTaken b y d owner o.frames (Ok tt)) (came_z : Came y z) where
      put_behind : (answer : Result (Unit {0}) Stop) (put : Result ℕ Stop) → ServesPut y z x.table x.index new put → Serves a z (of_exchange x o answer) (put_deeds a.post.machine x.table x.index new put)
      put_behind answer put serves =
          let came = came_trans a b y came_look came_y in
          let before = taken_serves answer d is level y came_y taken in
          let there = put_serves answer d is level y came_y before z put serves in
          let here = subst (λ (p : Post). Serves a z (of_exchange x o answer) (put_deeds p.machine x.table x.index new put ++ [])) (came_post a y came) there in
          subst (λ ds. Serves a z (of_exchange x o answer) ds) (append-nil (put_deeds a.post.machine x.table x.index new put)) here

      -- another word is found there, and it is given back
      module _ (e : Stop) (q w : PortValue) (put : PutsNew y z x seen (Err e)) (gives : Serves q w (of_back x.table) []) where
        behind : ServesPut y z x.table x.index new (Err e) → ServesGiven z q d → ServesDemandBehind a q (of_exchange x o (Err e)) (missed a.post.machine e)
        behind serves given =
            given a (of_exchange x o (Err e)) (missed a.post.machine e) (put_behind (Err e) (Err e) serves)
            (demand_asked (Err e) z (came_trans b y z came_y came_z) d is) refl

        pub lost_serves : ServesPut y z x.table x.index new (Err e) → ServesGiven z q d → ServesExchange a w x o (Err e)
        lost_serves serves given =
            let all = behind serves given in (
              all.more ++ missed a.post.machine e,
              stopped e all.more (put_hides y z x.table x.index seen new x.keep e put all.more all.hidden),
              unlocked_serves (Err e) q w (all.more ++ missed a.post.machine e) all.serves gives,
            )

        pub lost_stops : StopsPut y z x.table x.index seen e → Came z q → Stops a w (of_exchange x o (Err e)) e
        lost_stops stops came_q =
            stops_before a z w (of_exchange x o (Err e)) e
            (stops a b (of_exchange x o (Err e)) saw came_y (asks_table_in (Err e) (Met a y)))
            (came_trans z q w came_q (serves_came q w (of_back x.table) [] gives))

      -- it is put there, and what the old word asked released
      module _ (old : ℕ) (l w : PortValue) (put : PutsNew y z x seen (Ok old)) (leaves : LeavesDemand b y d owner (Ok tt)) (gives : Serves z l (of_back x.table) []) (came_w : Came l w) where
        moves : (act : Act) × Moves y z (Cell x.table x.index) act kinds.Cell None old
        moves = put_moves y z x.table x.index seen new old x.keep put

        met_put : Met a w (moment_of y (Cell x.table x.index) moves.0 kinds.Cell None old)
        met_put =
            met_after a y w _ (came_trans a b y came_look came_y)
            (met_before y z w _ (moves_met y z (Cell x.table x.index) moves.0 kinds.Cell None old moves.1) (came_trans z l w (serves_came z l (of_back x.table) [] gives) came_w))

        found_put : FoundWith (Met a w) (Cell x.table x.index) old y.holdings
        unfolding moment_of
        found_put = record { moment = moment_of y (Cell x.table x.index) moves.0 kinds.Cell None old; was = met_put; place = refl; word = refl; hand = refl }

        work_none : work_on x.table y.holdings.works ≡ None
        work_none =
            no_work x.table y.holdings.works (ap (λ (p : PortValue). p.holdings.works) leaves ∙ hand_works d owner b.holdings ∙ locked.holds.others.works)

        lock_here : lock_on x.table y.holdings.locks ≡ Some locked.holds.lock
        lock_here =
            ap (λ (p : PortValue). lock_on x.table p.holdings.locks) leaves ∙ ap (λ ls. lock_on x.table ls) (hand_locks d owner b.holdings) ∙ lock_there b x.table x.level o.tables locked.holds

        held_is : demand_held x.table x.index old y.holdings ≡ Some (old_demand x old)
        held_is = rw (work_none, lock_here, locked.holds.kind) refl

        owner_is : owner ≡ entry_owner (of_exchange x o (Ok tt)) (work_on x.table y.holdings.works) (lock_on x.table y.holdings.locks)
        owner_is = sym (rw (work_none, lock_here, locked.holds.kind) (owner_lower (of_exchange x o (Ok tt)) x.level))

        asks_old : (g : ℕ) (k : Option PageType) → IsDemandOf g k (Some (old_demand x old)) → Asked a.post.machine a.post.vcpu (of_exchange x o (Ok tt)) (Met a w) g owner k
        asks_old g k asked = demanded x.table x.index old y.holdings refl found_put (subst (λ (m : Option Demand). IsDemandOf g k m) (sym held_is) asked) owner_is

        pub done_serves : ServesPut y z x.table x.index new (Ok old) → Serves l w (of_given (old_demand x old) o.tables o.frames) [] → ServesExchange a w x o (Ok tt)
        done_serves serves given =
            let unlocked = unlocked_serves (Ok tt) z l (SetsEntry x.table x.index old new ∷ []) (put_behind (Ok tt) (Ok old) serves) gives in
            let asks = asks_by a.post.machine a.post.vcpu (of_exchange x o (Ok tt)) (Met a w) owner (old_demand x old) asks_old in
            let came_l = serves_came a l (of_exchange x o (Ok tt)) (SetsEntry x.table x.index old new ∷ []) unlocked in
            let within = within_giving a.post.machine a.post.vcpu x o (Ok tt) (Met a w) (old_demand x old) (Met l w) (λ m k. met_after a l w m came_l k) asks refl in
            (SetsEntry x.table x.index old new ∷ [], stored seen old, serves_inner a l w (of_exchange x o (Ok tt)) (of_given (old_demand x old) o.tables o.frames) (SetsEntry x.table x.index old new ∷ []) [] within unlocked given)
