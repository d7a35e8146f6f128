-- A table inside another one was left partial: it is recorded again as the last entry of that one.
use Rattle.std.proofs.Common.{◌≡◌, ◌≢◌, ℕ, ◌+◌, ◌-◌, ◌<◌, ◌≤◌, List, [], ◌∷◌, length, Option, Some, None, IsTrue, refl, sym, ap, ◌∙◌, subst, arith, inl, inr}
use Rattle.xp_words.specs.Entries.{demand_at}
use Rattle.xp_words.specs.KindWords.{kind_fields, kind_write}
use Rattle.xp_words.specs.PageTypes.{is_table}
use Rattle.xp_words.specs.Places.{Sizes, sizes_of}
use Rattle.xp_words.specs.declared.entry.Demand.TheVariants.{Typed}
use Rattle.xp_words.specs.declared.place.Place.TheVariants.{Kind}
use Rattle.xp_board.specs.Hands.{changed_work, work_on}
use Rattle.xp_board.specs.Knowledge.{knows_owner}
use Rattle.xp_board.specs.Marks.{leaves_unsettled}
use Rattle.xp_board.specs.Settling.{HasLastDemand, demand_out}
use Rattle.xp_board.specs.Told.{Post, PortValue}
use Rattle.xp_board.specs.declared.holdings.Holdings.{Holdings}
use Rattle.xp_board.specs.declared.holdings.Reference.{Reference}
use Rattle.xp_board.specs.declared.holdings.TypedReference.{TypedReference}
use Rattle.xp_board.specs.declared.holdings.Unsettled.{Unsettled}
use Rattle.xp_board.specs.declared.holdings.Work.{Work}
use Rattle.xp_board.specs.declared.step.Act.TheVariants.{Store}
use Rattle.xp_board.specs.declared.step.StepKind.TheVariants as kinds
use Rattle.step_maker.specs.Holds.{Holds, still}
use Rattle.step_maker.specs.Moves.{Came, Moves}
use Rattle.step_maker.proofs.Coming.{moves_came}
use Rattle.flush_words.proofs.Lasting.{came_longer}
use Rattle.flush_waits.proofs.Growing.{Grows, came_grows}
use Rattle.kind_words.specs.Kinds.{left}
use Rattle.kind_words.proofs.KindHands.{work_here}
use Rattle.kind_words.proofs.Leaving.{without_newest}
use Rattle.partial_state.proofs.LevelFacts.{level_type-table}
use Rattle.partial_state.specs.Levels.{level_type}
use Rattle.partial_state.specs.Stacks.{retreated}
use Rattle.partial_state.specs.declared.stack.TableWork.{TableWork}
use Rattle.table_words.specs.Entries.{RecordsNext, entry_recorded}
use Rattle.table_words.proofs.EntryHands.{next_asks, record_left, unsettled_for}
use Rattle.table_words.proofs.Shedding.{none_unsettled as settled_none}
use Rattle.level_release.specs.Course.{one_less}
use Rattle.level_release.specs.Holding.{AreOwned, Empties, IsReleasedWork}
use Rattle.level_release.proofs.Hands.{TopTable, hands_by, tables_done, tables_later, tables_top, typed_later}
use Rattle.level_release.proofs.HandsApart.{others_apart, tables_apart}
use Rattle.kind_words.proofs.KindHands.{changed_first}
use Rattle.level_release.proofs.HandsKnown.{AreApart, known_still, owned_apart, still_less, still_same}
use Rattle.level_release.proofs.HandsLeft.{LeftHand, left_held, left_kind, left_partial_known, left_typed, partial_hand}
use Rattle.level_release.proofs.HandsTop.{top}

recorded_work : ℕ → Option Unsettled → Work → Work
recorded_work upto u e = record e { recorded = upto; unsettled = u }

recorded_is : {z : Sizes} {made upto : ℕ} (o : Option Unsettled) {u : TableWork} {e : Work} → e.recorded < 512 → upto ≡ e.recorded + 1 → IsReleasedWork z made u e → IsReleasedWork z made (one_less u) (recorded_work upto o e)
unfolding recorded_work
recorded_is o inside next is =
    let all = is.recorded in
    record { inside = is.inside; frame = is.frame; kind = is.kind; unmarked = is.unmarked; recorded = omega (arith, all, inside, next); work = is.work; closing = is.closing; earlier = is.earlier }

module _ {h : Holdings} {v : PortValue} {t u : TableWork} {us : List TableWork} (s : Empties h v (t ∷ u ∷ us)) {d : PortValue} (k : LeftHand h v d t (u ∷ us) (top s).others) {found : ℕ}
    (store : Moves v d (Kind t.frame) (Store (kind_write (left_kind t))) kinds.Kind None found) where
  inner : TopTable (sizes_of v.post.machine) (length v.holdings.steps) None t (u ∷ us) v.holdings.works
  inner = top s

  abbrev outer : TopTable (sizes_of v.post.machine) (length v.holdings.steps) (Some t) u us (top s).others
  outer = tables_top (sizes_of v.post.machine) (length v.holdings.steps) (Some t) u us (top s).others (top s).around

  works_d : d.holdings.works ≡ outer.work ∷ outer.others
  works_d = ap (λ (q : PortValue). q.holdings.works) k.hand ∙ outer.are

  here_d : work_on u.frame d.holdings.works ≡ Some outer.work
  here_d = work_here u.frame outer.work outer.others d.holdings.works outer.is.frame works_d

  asks_is : demand_at (kind_fields outer.work.word).kind outer.work.recorded outer.inside.word ≡ Typed t.frame (level_type t.level)
  asks_is = ap (λ y. demand_at y outer.work.recorded outer.inside.word) outer.is.kind ∙ outer.inside.asks

  next_one : 512 - (u.done - 1) ≡ outer.work.recorded + 1
  next_one = let all = outer.is.recorded in let inside = outer.inside.inside in omega (arith, all, inside)

  grows_d : Grows v.holdings d.holdings
  grows_d = came_grows v d (moves_came v d _ _ kinds.Kind None found store)

  known_d : (g o : ℕ) → IsTrue (knows_owner (sizes_of v.post.machine) g o v.holdings) → IsTrue (knows_owner (sizes_of v.post.machine) g o d.holdings)
  known_d g o = k.known (sizes_of v.post.machine) g o d.holdings grows_d (ap (λ (q : PortValue). q.holdings.refs) k.hand) (ap (λ (q : PortValue). q.holdings.typed) k.hand) (ap (λ (q : PortValue). q.holdings.locks) k.hand)

  has_there : HasLastDemand v.post.machine u.frame (kind_fields outer.work.word).kind d.holdings (Typed t.frame (level_type t.level))
  has_there = (
    record {
      in_hand = left_held s k;
      owners = record { table = s.owner; frame = s.owner; table_known = known_d u.frame s.owner s.owned.1.0; frame_known = known_d t.frame s.owner s.owned.0; meet = inl refl };
    },
    inr (left_partial_known s k store),
  )

  has_last : HasLastDemand d.post.machine u.frame (kind_fields outer.work.word).kind d.holdings (demand_at (kind_fields outer.work.word).kind outer.work.recorded outer.inside.word)
  has_last =
      subst (λ (p : Post). HasLastDemand p.machine u.frame (kind_fields outer.work.word).kind d.holdings (demand_at (kind_fields outer.work.word).kind outer.work.recorded outer.inside.word)) (sym (ap (λ (q : PortValue). q.post) k.hand))
      (subst (λ y. HasLastDemand v.post.machine u.frame (kind_fields outer.work.word).kind d.holdings y) (sym asks_is) has_there)

  pub inside_records : RecordsNext d.post.machine u.frame (512 - (u.done - 1)) d.holdings
  inside_records =
      record {
        work = outer.work;
        may = record {
          here = here_d;
          table = ap is_table outer.is.kind ∙ level_type-table u.level s.stack.2.0.low;
          unmarked = outer.is.unmarked;
          next = next_one;
          inside = outer.inside.inside;
          settled = settled_none (sizes_of d.post.machine) d.holdings outer.work outer.inside.settled;
          word = outer.inside.word;
          seen = outer.inside.seen;
          in_hand = has_last;
        };
      }

  -- ---- it is recorded
  unsettled : Option Unsettled
  unsettled = unsettled_for (leaves_unsettled (sizes_of d.post.machine) d.holdings (next_asks d.post.machine u.frame (512 - (u.done - 1)) d.holdings inside_records)) outer.inside.word d.holdings

  abbrev again : Work
  again = recorded_work (512 - (u.done - 1)) unsettled outer.work

  recorded_left : entry_recorded d.post.machine u.frame d.holdings ≡ record d.holdings { typed = k.typed; works = again ∷ outer.others }
  unfolding unsettled recorded_work inside_records
  recorded_left =
      record_left d.post.machine u.frame (512 - (u.done - 1)) d.holdings inside_records _ refl
      ∙ ap (λ y. record (demand_out y d.holdings) { works = changed_work u.frame (recorded_work (512 - (u.done - 1)) unsettled) d.holdings.works }) asks_is
      ∙ ap (λ ys. record d.holdings { typed = ys; works = changed_work u.frame (recorded_work (512 - (u.done - 1)) unsettled) d.holdings.works })
      (without_newest (λ (y : TypedReference). y.frame) t.frame k.ref k.typed d.holdings.typed k.frame (left_typed s k))
      ∙ ap (λ ws. record d.holdings { typed = k.typed; works = ws }) (changed_first u.frame (recorded_work (512 - (u.done - 1)) unsettled) outer.work outer.others d.holdings.works works_d outer.is.frame)

  module _ (x : PortValue) (holds : Holds d x (entry_recorded d.post.machine u.frame d.holdings)) (came : Came d x) where
    recorded_hand : Holds v x (record v.holdings { refs = k.refs; typed = k.typed; works = again ∷ outer.others })
    recorded_hand =
        holds ∙ ap (λ (y : Holdings). still (record d { holdings = y })) recorded_left
        ∙ ap (λ (q : PortValue). still (record q { holdings = record q.holdings { typed = k.typed; works = again ∷ outer.others } })) k.hand

    apart : AreApart t.frame (u ∷ us)
    apart = tables_apart (sizes_of v.post.machine) (length v.holdings.steps) (Some t) t.frame (u ∷ us) inner.others inner.around (others_apart store.finds inner.are inner.is.frame)

    known_x : (g : ℕ) → t.frame ≢ g → IsTrue (knows_owner (sizes_of v.post.machine) g s.owner v.holdings) → IsTrue (knows_owner (sizes_of v.post.machine) g s.owner x.holdings)
    known_x g other knows =
        known_still (sizes_of v.post.machine) g s.owner d.holdings x.holdings (came_grows d x came) (still_same (λ (y : Reference). y.frame) g
        (ap (λ (q : PortValue). q.holdings.refs) recorded_hand ∙ sym (ap (λ (q : PortValue). q.holdings.refs) k.hand)))
        (still_less (λ (y : TypedReference). y.frame) g (λ same. other (sym k.frame ∙ same)) (left_typed s k ∙ ap (λ ys. k.ref ∷ ys) (sym (ap (λ (q : PortValue). q.holdings.typed) recorded_hand))))
        (ap (λ (q : PortValue). q.holdings.locks) recorded_hand ∙ sym (ap (λ (q : PortValue). q.holdings.locks) k.hand)) (known_d g s.owner knows)

    owned_x : AreOwned (sizes_of v.post.machine) s.owner (u ∷ us) x.holdings
    owned_x = owned_apart (sizes_of v.post.machine) s.owner t.frame (u ∷ us) v.holdings x.holdings known_x apart s.owned.1

    pub inside_stands : Empties h x (one_less u ∷ us)
    inside_stands =
        let z = sizes_of v.post.machine in
        let made = length v.holdings.steps in
        let longer : made ≤ length x.holdings.steps = omega (arith, (came_longer v d (moves_came v d _ _ kinds.Kind None found store)), (came_longer d x came)) in let few = s.stack.2.0.done
        in hands_by x (one_less u ∷ us) k.refs k.typed (again ∷ outer.others) s recorded_hand (
          record { low = s.stack.2.0.low; high = s.stack.2.0.high; done = omega (arith, few) },
          s.stack.2.1,
          s.stack.2.2,
        ) (tables_later z made (length x.holdings.steps) None (one_less u ∷ us) (again ∷ outer.others) longer
        (recorded_is unsettled outer.inside.inside next_one outer.is, tt, tables_done z made u (u.done - 1) us outer.others outer.around)) k.are_refs
        (typed_later made (length x.holdings.steps) (u ∷ us) k.typed longer k.are_typed) owned_x

-- ---- whatever stack it was in
outer_is : (u : TableWork) {o : TableWork} {us rest : List TableWork} → one_less u ∷ us ≡ o ∷ rest → one_less u ≡ o
outer_is u are = cc

module _ (h : Holdings) {v : PortValue} (t : TableWork) {d : PortValue} (hand : Holds v d (left v t.frame (left_kind t))) {found : ℕ} (store : Moves v d (Kind t.frame) (Store (kind_write (left_kind t))) kinds.Kind None found) where
  pub inside_asks : (stack : List TableWork) → stack ≢ [] → Empties h v (t ∷ stack) → (o : TableWork) (rest : List TableWork) → retreated stack ≡ o ∷ rest → RecordsNext d.post.machine o.frame (512 - o.done) d.holdings
  inside_asks [] some s o rest are = absurd (some refl)
  inside_asks (u ∷ us) some s o rest are = subst (λ (k : TableWork). RecordsNext d.post.machine k.frame (512 - k.done) d.holdings) (outer_is u are) (inside_records s (partial_hand s d hand) store)

  pub inside_done : (stack : List TableWork) → stack ≢ [] → Empties h v (t ∷ stack) → (o : TableWork) (rest new : List TableWork) → new ≡ o ∷ rest → new ≡ retreated stack →
      (x : PortValue) → Holds d x (entry_recorded d.post.machine o.frame d.holdings) → Came d x → Empties h x new
  inside_done [] some s o rest new top_is goes_back x holds came = absurd (some refl)
  inside_done (u ∷ us) some s o rest new top_is goes_back x holds came =
      let same = outer_is u (sym goes_back ∙ top_is) in
      subst (λ xs. Empties h x xs) (sym goes_back)
      (inside_stands s (partial_hand s d hand) store x (subst (λ (k : TableWork). Holds d x (entry_recorded d.post.machine k.frame d.holdings)) (sym same) holds) came)
