-- The innermost table after a look at one of its entries: the hand, and how the tables stand then.
use Rattle.std.proofs.Common.{◌≡◌, ◌≢◌, ℕ, ◌+◌, ◌-◌, ◌<◌, ◌≤◌, Bool, true, false, List, ◌∷◌, length, Option, Some, None, IsTrue, refl, sym, ap, ◌∙◌, subst, arith}
use Rattle.partial_state.proofs.LevelFacts.{level_type-under}
use Rattle.xp_words.specs.Entries.{below, demand_at}
use Rattle.xp_words.specs.KindWords.{kind_fields}
use Rattle.xp_words.specs.Places.{sizes_of}
use Rattle.xp_words.specs.declared.entry.Demand.TheVariants.{Typed}
use Rattle.xp_board.specs.declared.holdings.Reference.{Reference}
use Rattle.xp_board.specs.declared.holdings.Unsettled.{Unsettled}
use Rattle.xp_board.specs.declared.holdings.Work.{Work}
use Rattle.xp_board.specs.After.{learned_cell, learned_last, learned_work}
use Rattle.xp_board.specs.Hands.{typed_to}
use Rattle.xp_board.specs.Readings.{is_work}
use Rattle.xp_board.specs.Settling.{is_settled, settles_last}
use Rattle.xp_board.specs.Told.{Post, PortValue}
use Rattle.xp_board.proofs.Learned.{learned_frame}
use Rattle.step_maker.specs.Holds.{FlushedHolds, quiet}
use Rattle.step_maker.specs.Moves.{Came}
use Rattle.flush_words.proofs.Lasting.{came_longer}
use Rattle.flush_waits.proofs.Growing.{came_grows}
use Rattle.frame_types.specs.Taking.{working, working_typed}
use Rattle.kind_words.proofs.KindHands.{work_here, changed_first}
use Rattle.kind_words.proofs.Leaving.{without_newest}
use Rattle.table_entries.specs.Tops.{with_recorded}
use Rattle.table_entries.proofs.HandReady.{last_other, learned_word, settled_more, unmarked_learns}
use Rattle.partial_state.specs.declared.stack.TableWork.{TableWork}
use Rattle.partial_state.specs.Levels.{level_type}
use Rattle.partial_state.specs.Stacks.{IsStack}
use Rattle.level_validate.specs.Tables.{AreTables, AreTyped, IsLastWord, IsTopReady, IsTableWork, Reaches, Carries, innermost, taken_on, under_way}
use Rattle.level_validate.proofs.Standing.{top, top_done, stands_by, stands_post, tables_inner, tables_later, typed_done, typed_later, work_done}
use Rattle.level_validate.proofs.Opening.{FirstFound, last_looked, looked_apart, CameOpen, read_level}
use Rattle.xp_board.specs.declared.holdings.OwnerFound.TheVariants as owners

-- a table that an entry of t names
abbrev pub pushed : TableWork → ℕ → ℕ → Bool → Bool → TableWork
pushed t g progress own recorded = record { frame = g; level = t.level - 1; done = progress; own = own; recorded = recorded }

head_is : (x y : Work) (xs ys : List Work) → x ∷ xs ≡ y ∷ ys → y ≡ x
head_is x y xs ys is = cc

-- the innermost one is ready where its work is settled
pub ready_by : (w : PortValue) (x : Work) (xs : List Work) → w.holdings.works ≡ x ∷ xs → IsTrue (is_settled (sizes_of w.post.machine) w.holdings x) → IsTopReady w
ready_by w x xs are settled e es is = subst (λ y. IsTrue (is_settled (sizes_of w.post.machine) w.holdings y)) (sym (head_is x e xs es (sym are ∙ is))) settled

module _ {v u : PortValue} (w : PortValue) {owner : ℕ} {t : TableWork} {ts : List TableWork} (s : Carries v u owner (t ∷ ts)) (came : Came u w) (first : FirstFound u) (i word : ℕ) where
  unfoldable pub e : Work
  e = (top s).work

  unfoldable pub es : List Work
  es = (top s).others

  works_were : u.holdings.works ≡ e ∷ es
  unfolding e es
  works_were = (top s).are

  is_table_work : IsTableWork (sizes_of v.post.machine) t e
  unfolding e
  is_table_work = (top s).is

  recorded_is : e.recorded ≡ t.done
  unfolding e
  recorded_is = top_done s

  around_later : AreTables (sizes_of v.post.machine) w.holdings.steps (Some t) ts es
  unfolding es
  around_later = tables_later (sizes_of v.post.machine) (Some t) ts es u.holdings w.holdings (came_grows u w came) (came_longer u w came) (top s).around

  around_done : (d : ℕ) → AreTables (sizes_of v.post.machine) w.holdings.steps (Some (record t { done = d })) ts es
  around_done d = tables_inner (sizes_of v.post.machine) w.holdings.steps t d ts es around_later

  typed_now : AreTyped (length w.holdings.steps) owner (t ∷ ts) u.holdings.typed
  typed_now = typed_later (length u.holdings.steps) (length w.holdings.steps) owner (t ∷ ts) u.holdings.typed (came_longer u w came) s.typed

  -- its work after the look
  unfoldable pub seen : Work
  seen = learned_work i word e

  seen_is : seen ≡ record e { seen = seen.seen; unsettled = learned_last i e.recorded word e.unsettled; fixed = seen.fixed }
  unfolding seen
  seen_is = let learns = unmarked_learns i word e is_table_work.unmarked in learns ∙ ap (λ x. record e { seen = x; unsettled = learned_last i e.recorded word e.unsettled; fixed = (learned_work i word e).fixed }) (sym (ap (λ (y : Work). y.seen) learns))

  pub seen_word : seen.seen ≡ Some (record { index = i; word = word })
  unfolding seen
  seen_word = ap (λ (y : Work). y.seen) (unmarked_learns i word e is_table_work.unmarked)

  pub seen_recorded : seen.recorded ≡ t.done
  unfolding seen
  seen_recorded = ap (λ (y : Work). y.recorded) (unmarked_learns i word e is_table_work.unmarked) ∙ recorded_is

  seen_unsettled : seen.unsettled ≡ learned_last i e.recorded word e.unsettled
  unfolding seen
  seen_unsettled = ap (λ (y : Work). y.unsettled) (unmarked_learns i word e is_table_work.unmarked)

  pub seen_table : IsTableWork (sizes_of v.post.machine) t seen
  unfolding seen
  seen_table =
      let is = is_table_work in
      record { inside = is.inside; frame = learned_frame i word e ∙ is.frame; work = subst (λ y. IsTrue (is_work (kind_fields y))) (sym (learned_word i word e)) is.work; kind = ap (λ y. (kind_fields y).kind) (learned_word i word e) ∙ is.kind; unmarked = ap (λ y. (kind_fields y).unflushed) (learned_word i word e) ∙ is.unmarked; lent = is.lent }

  -- ---- the hand
  pub looked_hand : learned_cell t.frame i word u.holdings ≡ record u.holdings { works = seen ∷ es }
  unfolding seen
  looked_hand =
      looked_apart first.finds t.frame (work_here t.frame e es u.holdings.works is_table_work.frame works_were) is_table_work.work i word
      ∙ ap (λ ws. record u.holdings { works = ws }) (changed_first t.frame (learned_work i word) e es u.holdings.works works_were is_table_work.frame)

  -- ---- looked at alone
  pub looked_stands : FlushedHolds u w (record u.holdings { works = seen ∷ es }) → Carries v w owner (t ∷ ts)
  looked_stands hand =
      stands_by v u w owner (t ∷ ts) (t ∷ ts) u.holdings.refs u.holdings.typed (seen ∷ es) s hand s.stack
      (seen_table, innermost seen_recorded, around_later) s.refs typed_now

  pub looked_only : FlushedHolds u w (learned_cell t.frame i word u.holdings) → FlushedHolds u w (record u.holdings { works = seen ∷ es })
  looked_only hand = hand ∙ ap (λ h. quiet (record u { holdings = h })) looked_hand

  -- ---- recorded
  unfoldable pub next : Option Unsettled → Work
  next r = record seen { recorded = i + 1; unsettled = r }

  pub recorded_hand : (r : Option Unsettled) → FlushedHolds u w (with_recorded t.frame (i + 1) r (learned_cell t.frame i word u.holdings)) → FlushedHolds u w (record u.holdings { works = next r ∷ es })
  unfolding next
  recorded_hand r hand =
      hand ∙ ap (λ h. quiet (record u { holdings = with_recorded t.frame (i + 1) r h })) looked_hand
      ∙ ap (λ ws. quiet (record u { holdings = record u.holdings { works = ws } })) (changed_first t.frame (λ y. record y { recorded = i + 1; unsettled = r }) seen es (seen ∷ es) refl seen_table.frame)

  pub recorded_stands : (r : Option Unsettled) → i ≡ t.done → 0 < 512 - t.done → FlushedHolds u w (record u.holdings { works = next r ∷ es }) → Carries v w owner (record t { done = t.done + 1 } ∷ ts)
  unfolding next
  recorded_stands r at left hand =
      let is = seen_table in
      let st = s.stack in
      stands_by v u w owner (t ∷ ts) (record t { done = t.done + 1 } ∷ ts) u.holdings.refs u.holdings.typed (record seen { recorded = i + 1; unsettled = r } ∷ es) s hand
      (record { low = st.0.low; high = st.0.high; done = omega arith }, st.1, st.2)
      (record { inside = is.inside; frame = is.frame; work = is.work; kind = is.kind; unmarked = is.unmarked; lent = is.lent }, innermost (ap (λ n. n + 1) at), around_done (t.done + 1))
      s.refs (typed_done (length w.holdings.steps) owner t (t.done + 1) ts u.holdings.typed typed_now)

  -- ---- another table came into work
  module _ {g progress : ℕ} (d : ℕ) (r : Bool) (x : Work) (opens : CameOpen u g (below (level_type t.level)) progress) (fits : d ≤ 512) (frame : x.frame ≡ g) (in_work : IsTrue (is_work (kind_fields x.word))) (kind : (kind_fields x.word).kind ≡ below (level_type t.level)) (unmarked : (kind_fields x.word).unflushed ≡ false) (recorded : x.recorded ≡ progress) where
    low : 2 ≤ t.level
    low = read_level t.level s.stack.0.low opens.read

    type_is : below (level_type t.level) ≡ level_type (t.level - 1)
    type_is = level_type-under t.level s.stack.0.low s.stack.0.high

    stack_is : (own : Bool) → IsStack (pushed t g progress own r ∷ record t { done = d } ∷ ts)
    stack_is own =
        let st = s.stack in
        let high = st.0.high in
        let two = low in
        let few = opens.few in
        (record { low = omega (arith, two); high = omega (arith, high); done = few }, let k : t.level - 1 + 1 ≡ t.level = omega (arith, two) in k, (record { low = st.0.low; high = high; done = fits }, st.1, st.2))

    new_table : (own : Bool) → (r ≡ true → own ≡ false) → IsTableWork (sizes_of v.post.machine) (pushed t g progress own r) x
    new_table own lent =
        record {
          inside = subst (λ (p : Post). g < p.machine.frames) (stands_post v u owner (t ∷ ts) s) opens.inside;
          frame = frame;
          work = in_work;
          kind = kind ∙ type_is;
          unmarked = unmarked;
          lent = lent;
        }

    tables_are : (own : Bool) → (r ≡ true → own ≡ false) → Reaches (sizes_of v.post.machine) w.holdings.steps (record t { done = d }) seen (Some (pushed t g progress own r)) →
        AreTables (sizes_of v.post.machine) w.holdings.steps None (pushed t g progress own r ∷ record t { done = d } ∷ ts) (x ∷ seen ∷ es)
    tables_are own lent reach = (new_table own lent, innermost recorded, (work_done (sizes_of v.post.machine) t seen d seen_table, reach, around_done d))

    typed_done_now : AreTyped (length w.holdings.steps) owner (record t { done = d } ∷ ts) u.holdings.typed
    typed_done_now = typed_done (length w.holdings.steps) owner t d ts u.holdings.typed typed_now

    lent_ref : Reference
    lent_ref = record { frame = g; owner = owners.Of owner }

    pub pushed_own : r ≡ false → (since : ℕ) → since ≤ length w.holdings.steps → Reaches (sizes_of v.post.machine) w.holdings.steps (record t { done = d }) seen (Some (pushed t g progress true r)) →
        FlushedHolds u w (working g owner (below (level_type t.level)) true x since (record (learned_cell t.frame i word u.holdings) { refs = record { frame = g; owner = owners.Of owner } ∷ u.holdings.refs })) →
        Carries v w owner (pushed t g progress true r ∷ record t { done = d } ∷ ts)
    pushed_own new since taken reach hand =
        stands_by v u w owner (t ∷ ts) (pushed t g progress true r ∷ record t { done = d } ∷ ts) u.holdings.refs (working_typed g owner (below (level_type t.level)) since ∷ u.holdings.typed) (x ∷ seen ∷ es) s
        (hand ∙ ap (λ h. quiet (record u { holdings = working g owner (below (level_type t.level)) true x since (record h { refs = record { frame = g; owner = owners.Of owner } ∷ u.holdings.refs }) })) looked_hand
        ∙ ap (λ rs. quiet (record u { holdings = record u.holdings { refs = rs; typed = working_typed g owner (below (level_type t.level)) since ∷ u.holdings.typed; works = x ∷ seen ∷ es } }))
        (without_newest (λ (y : Reference). y.frame) g (record { frame = g; owner = owners.Of owner }) u.holdings.refs _ refl refl))
        (stack_is true) (tables_are true (λ old. let no : true ≡ false = sym old ∙ new in absurd cc) reach) s.refs
        (since, taken, u.holdings.typed, ap (λ k. working_typed g owner k since ∷ u.holdings.typed) type_is, typed_done_now)

    pub pushed_lent : (since : ℕ) → typed_to g u.holdings.typed ≡ 0 → Reaches (sizes_of v.post.machine) w.holdings.steps (record t { done = d }) seen (Some (pushed t g progress false r)) →
        FlushedHolds u w (working g owner (below (level_type t.level)) false x since (record (learned_cell t.frame i word u.holdings) { refs = record { frame = g; owner = owners.Of owner } ∷ u.holdings.refs })) →
        Carries v w owner (pushed t g progress false r ∷ record t { done = d } ∷ ts)
    pushed_lent since aside reach hand =
        stands_by v u w owner (t ∷ ts) (pushed t g progress false r ∷ record t { done = d } ∷ ts) (record { frame = g; owner = owners.Of owner } ∷ u.holdings.refs) u.holdings.typed (x ∷ seen ∷ es) s
        (hand ∙ ap (λ h. quiet (record u { holdings = working g owner (below (level_type t.level)) false x since (record h { refs = record { frame = g; owner = owners.Of owner } ∷ u.holdings.refs }) })) looked_hand)
        (stack_is false) (tables_are false (λ old. refl) reach) (ap (λ rs. record { frame = g; owner = owners.Of owner } ∷ rs) s.refs)
        (aside, typed_done_now)

  -- ---- where it stands in the innermost one
  settled_seen : i + 1 ≢ e.recorded → IsTrue (is_settled (sizes_of u.post.machine) u.holdings e) → IsTrue (settles_last (sizes_of v.post.machine) seen w.holdings.steps seen.unsettled)
  unfolding is_settled
  settled_seen off ready =
      let more = settled_more (sizes_of u.post.machine) u.holdings w.holdings e (came_grows u w came) ready in
      let is = seen_is ∙ ap (λ o. record e { seen = seen.seen; unsettled = o; fixed = seen.fixed }) (last_other i e.recorded word e.unsettled off) in
      subst (λ y. IsTrue (settles_last (sizes_of v.post.machine) y w.holdings.steps y.unsettled)) (sym is)
      (subst (λ (p : Post). IsTrue (settles_last (sizes_of p.machine) e w.holdings.steps e.unsettled)) (stands_post v u owner (t ∷ ts) s) more)

  pub reach_next : (g progress : ℕ) (own : Bool) → i ≡ t.done → IsTopReady u → demand_at (level_type t.level) i word ≡ Typed g (below (level_type t.level)) →
      Reaches (sizes_of v.post.machine) w.holdings.steps (record t { done = t.done + 1 }) seen (Some (pushed t g progress own false))
  reach_next g progress own at ready asks =
      under_way (pushed t g progress own false) word refl (ap (λ n. n + 1) seen_recorded)
      (settled_seen (λ same. let r = recorded_is in absurd (omega (arith, r, same, at))) (ready e es works_were))
      (seen_word ∙ ap (λ n. Some (record { index = n; word = word })) (at ∙ sym seen_recorded))
      (ap (λ n. demand_at (level_type t.level) n word) (seen_recorded ∙ sym at) ∙ asks ∙ ap (λ k. Typed g k) (level_type-under t.level s.stack.0.low s.stack.0.high))

  pub reach_again : (g progress : ℕ) (own : Bool) → i + 1 ≡ t.done → demand_at (level_type t.level) i word ≡ Typed g (below (level_type t.level)) →
      Reaches (sizes_of v.post.machine) w.holdings.steps t seen (Some (pushed t g progress own true))
  reach_again g progress own at asks =
      let i_is : i ≡ t.done - 1 = omega (arith, at) in
      taken_on (pushed t g progress own true) word refl seen_recorded (let k : 0 < t.done = omega (arith, at) in k)
      (subst (λ o. IsLastWord word o) (sym seen_unsettled) (last_looked i e.recorded word e.unsettled (at ∙ sym recorded_is)))
      (seen_word ∙ ap (λ n. Some (record { index = n; word = word })) i_is)
      (ap (λ n. demand_at (level_type t.level) n word) (sym i_is) ∙ asks ∙ ap (λ k. Typed g k) (level_type-under t.level s.stack.0.low s.stack.0.high))
