-- The newest table in the own works, whose next entry was looked at: it may be recorded once what it asks is in hand.
use Rattle.std.proofs.Common.{◌≡◌, ◌≢◌, ℕ, ◌+◌, if◌then◌else◌, Bool, true, false, Option, Some, None, IsTrue, refl, ap, ◌∙◌, arith, ◌⊎◌, [], ◌∷◌, sym, subst, inl, inr, ◌<◌}
use Rattle.xp_words.specs.Entries.{demand_at, below}
use Rattle.xp_words.specs.KindWords.{kind_fields}
use Rattle.xp_words.specs.Machine.{Machine}
use Rattle.xp_words.specs.PageTypes.{is_table}
use Rattle.xp_words.specs.Places.{Sizes, sizes_of}
use Rattle.xp_words.specs.declared.entry.Demand.{Demand}
use Rattle.xp_words.specs.declared.entry.Demand.TheVariants.{Nothing, Bad, Read, Typed}
use Rattle.xp_words.specs.declared.kind.PageType.{PageType}
use Rattle.xp_words.specs.declared.place.Place.TheVariants.{Cell}
use Rattle.xp_words.proofs.Shared.{eq_false as when_ne}
use Rattle.xp_board.specs.declared.holdings.Holdings.{Holdings}
use Rattle.xp_board.specs.declared.holdings.Unsettled.{Unsettled}
use Rattle.xp_board.specs.declared.holdings.Work.{Work}
use Rattle.xp_board.specs.declared.step.Act.TheVariants.{Load}
use Rattle.xp_board.specs.After.{counts_fixed, learned_last, learned_work, learned_cell}
use Rattle.xp_board.specs.Hands.{changed_work, work_on, typed_to, without_ref, without_typed}
use Rattle.xp_board.specs.Settling.{is_settled, settles, settles_last, settles_word, HasLastDemand, demand_out}
use Rattle.xp_board.specs.Told.{PortValue, Post}
use Rattle.xp_board.proofs.Learned.{learned_frame}
use Rattle.xp_board.proofs.ListChanges.{first_by-changed_here}
use Rattle.xp_board.proofs.ListCounts.{first_by-cons_here}
use Rattle.flush_waits.proofs.Growing.{Grows, came_grows}
use Rattle.step_maker.proofs.Coming.{moves_came, came_self}
use Rattle.table_entries.specs.Between.{LooksNext, SeesEntry}
use Rattle.xp_board.specs.declared.holdings.Reference.{Reference}
use Rattle.xp_board.specs.declared.holdings.TypedReference.{TypedReference}
use Rattle.xp_board.specs.Readings.{is_type}
use Rattle.step_maker.specs.Holds.{FlushedHolds, Holds, Same, quiet}
use Rattle.frame_words.specs.Freeing.{gave}
use Rattle.frame_words.specs.Refs.{took, MayPut}
use Rattle.frame_words.proofs.Putting.{without_newest}
use Rattle.frame_types.specs.Taking.{IsOfOther, IsWorking, WaitsWith, WorksFrom, typed_as, working}
use Rattle.table_entries.specs.Tops.{LookedAnd, Opens, TakesAgain, as_it_was, HoldsWorks, WorksNext, with_recorded}
use Rattle.table_entries.proofs.HandLists.{asks_below, none_before, was_in}
use Rattle.xp_board.specs.declared.holdings.Liveness.{Liveness}
use Rattle.xp_board.specs.Knowledge.{knows_live, knows_partial}
use Rattle.xp_board.specs.Marks.{leaves_unsettled}
use Rattle.step_maker.specs.Moves.{Came, Moves}
use Rattle.flush_waits.specs.Waiting.{IsKnownOwner}
use Rattle.kind_words.proofs.KindHands.{typed_held}
use Rattle.table_words.specs.Entries.{RecordsNext, entry_recorded}
use Rattle.table_words.proofs.EntryHands.{next_asks, record_left, unsettled_for}
use Rattle.table_entries.proofs.HandOwners.{ref_knows_its, ref_knows_still, typed_knows_its, typed_knows_still}
use Rattle.xp_board.specs.declared.step.StepKind.TheVariants as kinds
use Rattle.xp_board.specs.declared.holdings.OwnerFound.TheVariants as owners

-- ---- more steps settle no less
settles_more : (z : Sizes) (n : ℕ) (h k : Holdings) (d : Demand) → Grows h k → IsTrue (settles z n h.steps d) → IsTrue (settles z n k.steps d)
settles_more z n h k Nothing grows s = s
settles_more z n h k Bad grows s = s
settles_more z n h k (Read g) grows s = s
settles_more z n h k (Typed g t) grows s = grows _ s

settles_word_more : (z : Sizes) (t : PageType) (i n : ℕ) (h k : Holdings) (w : Option ℕ) → Grows h k → IsTrue (settles_word z t i n h.steps w) → IsTrue (settles_word z t i n k.steps w)
settles_word_more z t i n h k (Some w) grows s = settles_more z n h k (demand_at t i w) grows s
settles_word_more z t i n h k None grows s = s

settles_last_more : (z : Sizes) (e : Work) (h k : Holdings) (u : Option Unsettled) → Grows h k → IsTrue (settles_last z e h.steps u) → IsTrue (settles_last z e k.steps u)
settles_last_more z e h k None grows s = s
settles_last_more z e h k (Some u) grows s = settles_word_more z (kind_fields e.word).kind _ u.since h k u.word grows s

pub settled_more : (z : Sizes) (h k : Holdings) (e : Work) → Grows h k → IsTrue (is_settled z h e) → IsTrue (is_settled z k e)
unfolding is_settled
settled_more z h k e grows s = settles_last_more z e h k e.unsettled grows s

-- ---- a look at another entry than the last recorded one leaves that as it was
pub last_other : (i n w : ℕ) (u : Option Unsettled) → i + 1 ≢ n → learned_last i n w u ≡ u
last_other i n w None off = refl
last_other i n w (Some u) off = rw (when_ne (i + 1) n off) refl

pub unmarked_learns : (i w : ℕ) (e : Work) → (kind_fields e.word).unflushed ≡ false →
    learned_work i w e ≡ record e { seen = Some (record { index = i; word = w }); unsettled = learned_last i e.recorded w e.unsettled; fixed = (learned_work i w e).fixed }
unmarked_learns i w e off = rw off refl

-- ---- the table, ready for its next entry
pub record Ready (m : Machine) (f i : ℕ) (t : PageType) (word : ℕ) (h : Holdings) : Type 0 where
  pub work : Work
  pub here : work_on f h.works ≡ Some work
  pub kind : (kind_fields work.word).kind ≡ t
  pub table : IsTrue (is_table t)
  pub unmarked : (kind_fields work.word).unflushed ≡ false
  pub recorded : work.recorded ≡ i
  pub settled : IsTrue (is_settled (sizes_of m) h work)
  pub seen : work.seen ≡ Some (record { index = i; word = word })

-- it stays so while its work does
pub ready_later : (m : Machine) (f i : ℕ) (t : PageType) (word : ℕ) (h k : Holdings) → k.works ≡ h.works → Grows h k → Ready m f i t word h → Ready m f i t word k
ready_later m f i t word h k works grows r =
    record {
      work = r.work;
      here = ap (λ ws. work_on f ws) works ∙ r.here;
      kind = r.kind;
      table = r.table;
      unmarked = r.unmarked;
      recorded = r.recorded;
      settled = settled_more (sizes_of m) h k r.work grows r.settled;
      seen = r.seen;
    }

-- ---- from a look at the next entry on
-- its kind word stays the same
same_if : (u : Bool) (e x : Work) → x.word ≡ e.word → (if u then e else x).word ≡ e.word
same_if true e x word = refl
same_if false e x word = word

pub learned_word : (i w : ℕ) (e : Work) → (learned_work i w e).word ≡ e.word
learned_word i w e =
    same_if (kind_fields e.word).unflushed e
    (record e { seen = Some (record { index = i; word = w }); unsettled = learned_last i e.recorded w e.unsettled; fixed = if counts_fixed i w e then e.fixed + 1 else e.fixed }) refl

with_fixed : (i w n : ℕ) (e : Work) → Work
with_fixed i w n e = record e { seen = Some (record { index = i; word = w }); fixed = n }

settled_seen : (z : Sizes) (h : Holdings) (i w n : ℕ) (e : Work) → IsTrue (is_settled z h e) → IsTrue (is_settled z h (with_fixed i w n e))
unfolding is_settled with_fixed
settled_seen z h i w n e s = s

module _ {b v : PortValue} {f i owner : ℕ} {t : PageType} {word : ℕ} (l : LooksNext b v f i owner t word) where
  learned : learned_work i word l.works.on.top ≡ with_fixed i word (learned_work i word l.works.on.top).fixed l.works.on.top
  unfolding with_fixed
  learned =
      unmarked_learns i word l.works.on.top l.works.on.unmarked
      ∙ ap (λ u. record l.works.on.top { seen = Some (record { index = i; word = word }); unsettled = u; fixed = (learned_work i word l.works.on.top).fixed })
      (last_other i l.works.on.top.recorded word l.works.on.top.unsettled (λ e. let r = l.works.on.recorded in absurd (omega arith)))

  works_are : v.holdings.works ≡ changed_work f (learned_work i word) b.holdings.works
  works_are = ap (λ (q : PortValue). q.holdings.works) l.looks.hand

  here_now : work_on f v.holdings.works ≡ Some (with_fixed i word (learned_work i word l.works.on.top).fixed l.works.on.top)
  here_now =
      ap (λ ws. work_on f ws) works_are
      ∙ first_by-changed_here (λ (y : Work). y.frame) f (learned_work i word) b.holdings.works l.works.on.top (learned_frame i word)
      (ap (λ ws. work_on f ws) l.works.on.works ∙ first_by-cons_here (λ (y : Work). y.frame) f l.works.on.top l.works.on.others l.works.on.frame)
      ∙ ap (λ e. Some e) learned

  pub next_ready : Ready b.post.machine f i t word v.holdings
  unfolding with_fixed
  next_ready =
      let s = l.works.on in
      record {
        work = with_fixed i word (learned_work i word s.top).fixed s.top;
        here = here_now;
        kind = s.kind;
        table = s.table;
        unmarked = s.unmarked;
        recorded = s.recorded;
        settled = settled_seen (sizes_of b.post.machine) v.holdings i word (learned_work i word s.top).fixed s.top
            (settled_more (sizes_of b.post.machine) b.holdings v.holdings s.top (came_grows b v (moves_came b v (Cell f i) Load kinds.Look None word l.looks.look)) l.works.settled);
        seen = refl;
      }

-- ---- The entry asks a type of a frame: what is known of the hand for that call, and what the call leaves.
-- what came into the own works, from where more was in hand
works_behind : (v u w : PortValue) (k : Holdings) (g owner : ℕ) (want : PageType) (own : Bool) (e : Work) (since : ℕ) → Holds v u k →
    FlushedHolds u w (working g owner want own e since u.holdings) → FlushedHolds v w (working g owner want own e since k)
works_behind v u w k g owner want true e since holds works = works ∙ ap (λ (q : PortValue). quiet (record q { holdings = working g owner want true e since q.holdings })) holds
works_behind v u w k g owner want false e since holds works = works ∙ ap (λ (q : PortValue). quiet (record q { holdings = working g owner want false e since q.holdings })) holds

-- ---- from a look on, with a reference to the frame
module _ {b v : PortValue} {f i : ℕ} {t : PageType} {word : ℕ} (l : SeesEntry b v f i t word) {g : ℕ} (owner : ℕ) {want : PageType} (asks : demand_at t i word ≡ Typed g want) (u : PortValue) (takes : Holds v u (took g owner v.holdings)) where
  pub lent_all : Holds b u (took g owner (learned_cell f i word b.holdings))
  lent_all = takes ∙ ap (λ (q : PortValue). record q { holdings = took g owner q.holdings }) l.hand

  entry_works : u.holdings.works ≡ changed_work f (learned_work i word) b.holdings.works
  entry_works = ap (λ (q : PortValue). q.holdings.works) lent_all

  pub take_aside : work_on g u.holdings.works ≡ None → typed_to g u.holdings.typed ≡ 0
  take_aside none =
      ap (λ (q : PortValue). typed_to g q.holdings.typed) lent_all
      ∙ l.held g (none_before (λ (y : Work). y.frame) g f (learned_work i word) b.holdings.works (learned_frame i word) (ap (λ ws. work_on g ws) (sym entry_works) ∙ none))

  same_word : (e x : Work) → (e ≡ x) ⊎ (e ≡ learned_work i word x) → e.word ≡ x.word
  same_word e x (inl is) = ap (λ (y : Work). y.word) is
  same_word e x (inr is) = ap (λ (y : Work). y.word) is ∙ learned_word i word x

  pub take_other : IsOfOther g want u.holdings
  take_other e here =
      let w = was_in (λ (y : Work). y.frame) g f (learned_work i word) b.holdings.works e (learned_frame i word) (ap (λ ws. work_on g ws) (sym entry_works) ∙ here) in
      ap (λ n. is_type (kind_fields n).kind want) (same_word e w.was w.is) ∙ ap (λ k. is_type (kind_fields w.was.word).kind k) (asks_below t i word g want asks) ∙ l.above g w.was w.here

  pub take_looking : u.holdings.looking ≡ []
  take_looking = ap (λ (q : PortValue). q.holdings.looking) lent_all ∙ l.looked

  -- the reference is given back
  pub gave_up : (y : PortValue) → FlushedHolds u y (gave g u.holdings) → LookedAnd b y f i as_it_was
  gave_up y gives = (
    word,
    gives ∙ ap (λ (q : PortValue). quiet (record q { holdings = gave g q.holdings })) lent_all
        ∙ ap (λ rs. quiet (record b { holdings = record (learned_cell f i word b.holdings) { refs = rs } })) (without_newest (λ (y : Reference). y.frame) g (record { frame = g; owner = owners.Of owner }) b.holdings.refs refl),
  )

  pub given_up : (x y : PortValue) → Same u x → Holds x y (gave g x.holdings) → LookedAnd b y f i as_it_was
  given_up x y same gives = gave_up y (ap quiet gives ∙ ap (λ (q : PortValue). quiet (record q { holdings = gave g q.holdings })) same)

  -- it became a typed one
  pub typed_from : (x : PortValue) (e : TypedReference) → FlushedHolds u x (record u.holdings { refs = without_ref g u.holdings.refs; typed = e ∷ u.holdings.typed }) → FlushedHolds v x (record v.holdings { typed = e ∷ v.holdings.typed })
  typed_from x e typed =
      typed ∙ ap (λ (q : PortValue). quiet (record q { holdings = record q.holdings { refs = without_ref g q.holdings.refs; typed = e ∷ q.holdings.typed } })) takes
      ∙ ap (λ rs. quiet (record v { holdings = record v.holdings { refs = rs; typed = e ∷ v.holdings.typed } }))
      (without_newest (λ (y : Reference). y.frame) g (record { frame = g; owner = owners.Of owner }) v.holdings.refs refl)

  -- it came into the own works
  opens_by : (x : PortValue) (progress : ℕ) (own marked : Bool) (e : Work) → IsWorking u x g owner want own e → e.recorded ≡ progress → (progress ≡ 0 → e.unsettled ≡ None) →
      (kind_fields e.word).unflushed ≡ marked → Opens b x f i t g owner progress own marked
  opens_by x progress own marked e works recorded settled marks =
      let is = asks_below t i word g want asks in
      record {
        word = word;
        asks = asks ∙ ap (λ k. Typed g k) is;
        work = e;
        since = works.since;
        frame = works.frame;
        in_work = works.in_work;
        kind = works.kind ∙ is;
        flushed = marks;
        recorded = recorded;
        settled = settled;
        earlier = works.earlier;
        taken = works.taken;
        aside = sym (ap (λ (q : PortValue). typed_to g q.holdings.typed) lent_all) ∙ works.aside;
        hand = subst (λ k. FlushedHolds b x (working g owner k own e works.since (took g owner (learned_cell f i word b.holdings)))) is
            (works_behind b u x (took g owner (learned_cell f i word b.holdings)) g owner want own e works.since lent_all works.hand);
      }

  pub opens_from : (x : PortValue) (progress : ℕ) (own : Bool) → WorksFrom u x g owner want progress own → Opens b x f i t g owner progress own false
  opens_from x progress own w = opens_by x progress own false w.work w.works w.recorded w.settled w.unmarked

  pub opens_waiting : (x : PortValue) (own : Bool) (stamp : ℕ) → WaitsWith u x g owner want own stamp → (o : Opens b x f i t g owner 0 own true) × ((kind_fields o.work.word).number ≡ stamp)
  unfolding opens_by
  opens_waiting x own stamp w = (opens_by x 0 own true w.work w.works w.none (λ zero. w.settled) w.marked, w.stamped)

  -- it was live: a typed reference more
  pub takes_again : (x : PortValue) → FlushedHolds u x (typed_as g owner want u.holdings) → TakesAgain b x f i t g owner
  takes_again x typed =
      let is = asks_below t i word g want asks in
      record {
        word = word;
        asks = asks ∙ ap (λ k. Typed g k) is;
        hand = subst (λ k. FlushedHolds b x (typed_as g owner k (took g owner (learned_cell f i word b.holdings)))) is (typed ∙ ap (λ (q : PortValue). quiet (record q { holdings = typed_as g owner want q.holdings })) lent_all);
      }

-- ---- The next entry is recorded: what it asks is in hand, and goes out of it.
out_recorded : (f n : ℕ) (s : Option Unsettled) (d : Demand) (h : Holdings) →
    record (demand_out d h) { works = changed_work f (λ x. record x { recorded = n; unsettled = s }) h.works } ≡ with_recorded f n s (demand_out d h)
out_recorded f n s Nothing h = refl
out_recorded f n s Bad h = refl
out_recorded f n s (Read g) h = refl
out_recorded f n s (Typed g t) h = refl

-- ---- any hand that has what the entry asks
module _ {m : Machine} {f i : ℕ} {t : PageType} {word : ℕ} {h : Holdings} (inside : i < 512) (r : Ready m f i t word h) {d : Demand} (asks : demand_at t i word ≡ d) (has : HasLastDemand m f t h d) where
  pub records : RecordsNext m f (i + 1) h
  records =
      record {
        work = r.work;
        may = record {
          here = r.here;
          table = subst (λ k. IsTrue (is_table k)) (sym r.kind) r.table;
          unmarked = r.unmarked;
          next = ap (λ n. n + 1) (sym r.recorded);
          inside = subst (λ n. n < 512) (sym r.recorded) inside;
          settled = r.settled;
          word = word;
          seen = r.seen ∙ ap (λ n. Some (record { index = n; word = word })) (sym r.recorded);
          in_hand = subst (λ n. HasLastDemand m f (kind_fields r.work.word).kind h (demand_at (kind_fields r.work.word).kind n word)) (sym r.recorded)
              (subst (λ k. HasLastDemand m f k h (demand_at k i word)) (sym r.kind) (subst (λ y. HasLastDemand m f t h y) (sym asks) has));
        };
      }

  next_is : next_asks m f (i + 1) h records ≡ d
  unfolding records
  next_is = ap (λ k. demand_at k r.work.recorded word) r.kind ∙ ap (λ n. demand_at t n word) r.recorded ∙ asks

  pub recorded_as : (b : Bool) → leaves_unsettled (sizes_of m) h d ≡ b → entry_recorded m f h ≡ with_recorded f (i + 1) (unsettled_for b word h) (demand_out d h)
  unfolding records
  recorded_as b leaves =
      record_left m f (i + 1) h records b (ap (λ y. leaves_unsettled (sizes_of m) h y) next_is ∙ leaves)
      ∙ ap (λ y. record (demand_out y h) { works = changed_work f (λ x. record x { recorded = i + 1; unsettled = unsettled_for b word h }) h.works }) next_is
      ∙ out_recorded f (i + 1) (unsettled_for b word h) d h

pub looks_next : {b v : PortValue} {f i word : ℕ} {t : PageType} → (owner : ℕ) → Moves b v (Cell f i) Load kinds.Look None word → Holds b v (learned_cell f i word b.holdings) → f < b.post.machine.frames → i < 512 → HoldsWorks b.holdings →
    ((g : ℕ) → IsOfOther g (below t) b.holdings) → b.holdings.looking ≡ [] → WorksNext b.post.machine f t i b.holdings → IsKnownOwner f owner b.holdings → LooksNext b v f i owner t word
looks_next owner look hand frame index held above looked works known =
    record { looks = record { look = look; hand = hand; frame = frame; index = index; held = held; above = above; looked = looked }; works = works; known = known }

-- ---- from a look at it on
module _ {b v : PortValue} {f i owner : ℕ} {t : PageType} {word : ℕ} (l : LooksNext b v f i owner t word) where
  ready_at : (w : PortValue) → Came v w → w.holdings.works ≡ v.holdings.works → w.post ≡ b.post → Ready w.post.machine f i t word w.holdings
  ready_at w came works post =
      subst (λ (p : Post). Ready p.machine f i t word w.holdings) (sym post)
      (ready_later b.post.machine f i t word v.holdings w.holdings works (came_grows v w came) (next_ready l))

  looked_recorded : (w : PortValue) (s : Option Unsettled) → FlushedHolds v w (with_recorded f (i + 1) s v.holdings) → FlushedHolds b w (with_recorded f (i + 1) s (learned_cell f i word b.holdings))
  looked_recorded w s holds = holds ∙ ap (λ (q : PortValue). quiet (record q { holdings = with_recorded f (i + 1) s q.holdings })) l.looks.hand

  -- it asks a reference
  module _ (u : PortValue) (g : ℕ) (takes : Holds v u (took g owner v.holdings)) (came : Came v u) (puts : MayPut g u.holdings) (asks : demand_at t i word ≡ Read g) where
    lent_ref : Reference
    lent_ref = record { frame = g; owner = owners.Of owner }

    refs_are : u.holdings.refs ≡ lent_ref ∷ b.holdings.refs
    unfolding lent_ref
    refs_are = ap (λ (q : PortValue). q.holdings.refs) takes ∙ ap (λ (q : PortValue). record { frame = g; owner = owners.Of owner } ∷ q.holdings.refs) l.looks.hand

    typed_are : u.holdings.typed ≡ b.holdings.typed
    typed_are = ap (λ (q : PortValue). q.holdings.typed) takes ∙ ap (λ (q : PortValue). q.holdings.typed) l.looks.hand

    ready_plain : Ready u.post.machine f i t word u.holdings
    ready_plain = ready_at u came (ap (λ (q : PortValue). q.holdings.works) takes) (ap (λ (q : PortValue). q.post) takes ∙ ap (λ (q : PortValue). q.post) l.looks.hand)

    has_plain : HasLastDemand u.post.machine f t u.holdings (Read g)
    unfolding lent_ref
    has_plain =
        let z = sizes_of u.post.machine in
        record {
          in_hand = puts.held;
          spares = puts.spares;
          owners = record {
            table = owner;
            frame = owner;
            table_known = ref_knows_still z owner b.holdings u.holdings lent_ref refl refs_are typed_are f l.known;
            frame_known = ref_knows_its z owner b.holdings u.holdings lent_ref refl refs_are typed_are;
            meet = inl refl;
          };
        }

    pub plain_records : RecordsNext u.post.machine f (i + 1) u.holdings
    plain_records = records l.looks.index ready_plain asks has_plain

    pub plain_hand : (w : PortValue) → Holds u w (entry_recorded u.post.machine f u.holdings) → LookedAnd b w f i (λ x h. with_recorded f (i + 1) None h)
    plain_hand w holds =
        let as_is = recorded_as l.looks.index ready_plain asks has_plain false refl in (
          word,
          looked_recorded w None
              (ap quiet holds ∙ ap (λ h. quiet (record u { holdings = h })) as_is
              ∙ ap (λ (q : PortValue). quiet (record q { holdings = with_recorded f (i + 1) None (record q.holdings { refs = without_ref g q.holdings.refs }) })) takes
              ∙ ap (λ rs. quiet (record v { holdings = with_recorded f (i + 1) None (record v.holdings { refs = rs }) }))
              (without_newest (λ (y : Reference). y.frame) g (record { frame = g; owner = owners.Of owner }) v.holdings.refs refl)),
        )

  -- it asks a type
  module _ (x : PortValue) (g : ℕ) (want : PageType) (live : Liveness) (adds : FlushedHolds v x (record v.holdings { typed = record { frame = g; kind = Some want; owner = owners.Of owner; live = live } ∷ v.holdings.typed })) (came : Came v x)
      (asks : demand_at t i word ≡ Typed g want) (known : IsTrue (knows_live (sizes_of x.post.machine) g want x.holdings) ⊎ IsTrue (knows_partial (sizes_of x.post.machine) g want x.holdings)) where
    abbrev newest : TypedReference
    newest = record { frame = g; kind = Some want; owner = owners.Of owner; live = live }

    refs_same : x.holdings.refs ≡ b.holdings.refs
    refs_same = ap (λ (q : PortValue). q.holdings.refs) adds ∙ ap (λ (q : PortValue). q.holdings.refs) l.looks.hand

    typed_more : x.holdings.typed ≡ newest ∷ b.holdings.typed
    typed_more = ap (λ (q : PortValue). q.holdings.typed) adds ∙ ap (λ (q : PortValue). record { frame = g; kind = Some want; owner = owners.Of owner; live = live } ∷ q.holdings.typed) l.looks.hand

    ready_typed : Ready x.post.machine f i t word x.holdings
    ready_typed = ready_at x came (ap (λ (q : PortValue). q.holdings.works) adds) (ap (λ (q : PortValue). q.post) adds ∙ ap (λ (q : PortValue). q.post) l.looks.hand)

    has_typed : HasLastDemand x.post.machine f t x.holdings (Typed g want)
    has_typed =
        let z = sizes_of x.post.machine in (
          record {
            in_hand = subst (λ ts. 0 < typed_to g ts) (sym typed_more) (typed_held g newest b.holdings.typed refl);
            owners = record {
              table = owner;
              frame = owner;
              table_known = typed_knows_still z owner b.holdings x.holdings newest refl refs_same typed_more f l.known;
              frame_known = typed_knows_its z owner b.holdings x.holdings newest refl refs_same typed_more;
              meet = inl refl;
            };
          },
          known,
        )

    pub typed_records : RecordsNext x.post.machine f (i + 1) x.holdings
    typed_records = records l.looks.index ready_typed asks has_typed

    pub typed_hand : (w : PortValue) (leaves : Bool) → leaves_unsettled (sizes_of x.post.machine) x.holdings (Typed g want) ≡ leaves → Holds x w (entry_recorded x.post.machine f x.holdings) →
        FlushedHolds b w (with_recorded f (i + 1) (unsettled_for leaves word x.holdings) (learned_cell f i word b.holdings))
    typed_hand w leaves is holds =
        let s = unsettled_for leaves word x.holdings in
        looked_recorded w s
        (ap quiet holds ∙ ap (λ h. quiet (record x { holdings = h })) (recorded_as l.looks.index ready_typed asks has_typed leaves is)
        ∙ ap (λ (q : PortValue). quiet (record q { holdings = with_recorded f (i + 1) s (record q.holdings { typed = without_typed g q.holdings.typed }) })) adds
        ∙ ap (λ ts. quiet (record v { holdings = with_recorded f (i + 1) s (record v.holdings { typed = ts }) }))
        (without_newest (λ (y : TypedReference). y.frame) g (record { frame = g; kind = Some want; owner = owners.Of owner; live = live }) v.holdings.typed refl))

  -- it asks nothing
  module _ (asks : demand_at t i word ≡ Nothing) where
    ready_now : Ready v.post.machine f i t word v.holdings
    ready_now = ready_at v (came_self v) refl (ap (λ (q : PortValue). q.post) l.looks.hand)

    pub nothing_records : RecordsNext v.post.machine f (i + 1) v.holdings
    nothing_records = records l.looks.index ready_now asks tt

    pub nothing_hand : (w : PortValue) → Holds v w (entry_recorded v.post.machine f v.holdings) → LookedAnd b w f i (λ x h. with_recorded f (i + 1) None h)
    nothing_hand w holds = (
      word,
      looked_recorded w None (ap quiet holds ∙ ap (λ h. quiet (record v { holdings = h })) (recorded_as l.looks.index ready_now asks tt false refl)),
    )
