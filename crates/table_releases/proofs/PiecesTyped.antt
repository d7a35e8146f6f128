-- The steps of a release, each as one more of the piece of the whole.
use Rattle.std.proofs.Common.{◌≡◌, ℕ, ◌&&◌, not, if◌then◌else◌, true, false, List, [], Option, Some, None, IsTrue, refl, sym, ap, ◌∙◌, subst, arith, inl, ◌≢◌, ◌∷◌, ◌++◌, length, Ok, Err}
use Rattle.xp_words.specs.Entries.{demand_at}
use Rattle.xp_words.specs.KindWords.{kind_fields, is_kind, kind_read, kind_write}
use Rattle.xp_words.specs.PageTypes.{is_table}
use Rattle.xp_words.specs.declared.kind.PageType.{PageType}
use Rattle.xp_words.specs.declared.place.Place.{Place}
use Rattle.xp_words.specs.declared.place.Place.TheVariants.{Cell, Clock, Refs, Kind}
use Rattle.xp_board.specs.declared.holdings.Holdings.{Holdings}
use Rattle.xp_board.specs.declared.holdings.Work.{Work}
use Rattle.xp_board.specs.declared.step.Act.{Act}
use Rattle.xp_board.specs.declared.step.Act.TheVariants.{Load, Cas}
use Rattle.xp_board.specs.declared.step.Mark.TheVariants.{Shed}
use Rattle.xp_board.specs.Hands.{lock_on, work_on}
use Rattle.xp_board.specs.Told.{PortValue, Post}
use Rattle.step_maker.specs.Moves.{Came, Met, Moves}
use Rattle.step_maker.proofs.Coming.{met_after, met_before, moment_of, moves_met, came_trans, moves_came}
use Rattle.step_maker.specs.Answers.{Deed, Serves, Misses, Stops, deeds_by, exchanged, missed_at, pin_deed}
use Rattle.step_maker.specs.Asked.{Asked, IsDemandOf, Passed, demand_by, demand_held, demanded, entry_owner, stands, of_back}
use Rattle.step_maker.specs.Finding.{Finding, FoundWith}
use Rattle.step_maker.specs.Pauses.{Progress, entry}
use Rattle.step_maker.proofs.Piecing.{moves_serves, serves_step, serves_came, serves_then}
use Rattle.table_entries.specs.Asking.{of_entries, AsksBelow}
use Rattle.table_entries.proofs.PiecesTaking.{Goes, goes_came, looks_step, looks_then, asks_still, goes_back, goes_kind}
use Rattle.table_entries.proofs.LastEntry.{SeenLast}
use Rattle.table_releases.specs.Between.{SeesLast, Releases, SeesKind}
use Rattle.table_releases.proofs.Looking.{top_here}
use Rattle.xp_words.specs.Places.{is_place, number, place_at, sizes_of}
use Rattle.xp_words.proofs.PlaceLaws.{place_back}
use Rattle.xp_words.specs.declared.kind.KindWord.{KindWord}
use Rattle.xp_words.specs.declared.reply.Pause.TheVariants.{Busy, Lost}
use Rattle.xp_words.specs.declared.reply.Stop.TheVariants.{Paused}
use Rattle.xp_board.specs.Acts.{left_by}
use Rattle.xp_board.specs.KindSteps.{resumed_kind}
use Rattle.xp_board.specs.Readings.{is_partial}
use Rattle.xp_board.specs.Steps.{last_since}
use Rattle.xp_board.proofs.KindForms.{fields_of}
use Rattle.xp_board.proofs.Sums.{when_eq}
use Rattle.step_maker.specs.Reasons.{MayType}
use Rattle.kind_words.proofs.KindFacts.{read_is}
use Rattle.kind_words.proofs.KindWriting.{fields_write, resumed_is}
use Rattle.flush_words.proofs.Lasting.{last_left}
use Rattle.table_entries.proofs.HandLists.{asks_below}
use Rattle.table_releases.specs.Tops.{ShowsReleased}
use Rattle.table_releases.specs.declared.entries.Released.{Released}
use Rattle.table_releases.specs.declared.entries.Released.TheVariants.{Given, Opened}
use Rattle.table_releases.proofs.FrameSeen.{found_elsewhere, found_kind, found_work, from_seen, kind_post, now_seen}
use Rattle.xp_words.specs.declared.entry.Demand.TheVariants as demands
use Rattle.xp_words.proofs.Shared.{eq_false as when_ne}
use Rattle.xp_board.specs.declared.step.StepKind.TheVariants as kinds
use Rattle.table_words.proofs.Shared.{pin_none as no_pin}

-- ---- any step but at a cell
pub goes_step : (b v w : PortValue) (f i owner pages : ℕ) (ds : List Deed) (p : Place) (a : Act) (kind : _) (mark : _) (found : ℕ) (es : List Deed) → Goes b v f i owner pages ds → Moves v w p a kind mark found →
    ((g j : ℕ) → p ≡ Cell g j → ⊥) → Serves b w (of_entries owner pages) es → Goes b w f i owner pages es
goes_step b v w f i owner pages ds p a kind mark found es goes m off serves =
    record { serves = serves; looks = looks_then b v w f i goes.looks (looks_step v w f i p a kind mark found m (λ h j at. absurd (off h j at))) }

module _ {b v : PortValue} (w : PortValue) {f i owner pages : ℕ} {ds : List Deed} (goes : Goes b v f i owner pages ds) (g upto found : ℕ) where
  pub goes_shed : Moves v w Clock Load kinds.Look (Some (Shed g upto)) found → Goes b w f i owner pages ds
  goes_shed m =
      goes_step b v w f i owner pages ds Clock Load kinds.Look (Some (Shed g upto)) found ds goes m (λ h j at. let same = at in cc)
      (serves_step b v w (of_entries owner pages) ds Clock Load kinds.Look (Some (Shed g upto)) found goes.serves m tt)

  pub goes_shed_refs : (k : ℕ) → Moves v w (Refs k) Load kinds.Look (Some (Shed g upto)) found → Goes b w f i owner pages ds
  goes_shed_refs k m =
      goes_step b v w f i owner pages ds (Refs k) Load kinds.Look (Some (Shed g upto)) found ds goes m (λ h j at. let same = at in cc)
      (serves_step b v w (of_entries owner pages) ds (Refs k) Load kinds.Look (Some (Shed g upto)) found goes.serves m tt)

-- the step that shed the entry
module _ {b v : PortValue} (w : PortValue) {f i owner pages : ℕ} {ds : List Deed} (goes : Goes b v f i owner pages ds) where
  pub shed_shows : (p : Place) (g upto found : ℕ) → Moves v w p Load kinds.Look (Some (Shed g upto)) found → (z : PortValue) → Came w z → Progress (Met b z)
  unfolding moment_of
  shed_shows p g upto found m z came =
      entry (moment_of v p Load kinds.Look (Some (Shed g upto)) found) (met_before b w z _ (met_after b v w _ (goes_came goes) (moves_met v w p Load kinds.Look (Some (Shed g upto)) found m)) came) refl

-- ---- what the entry asks, in a hand where the table is in the own works
held_by_work : (f i w : ℕ) (t : PageType) (h : Holdings) (e : Work) → work_on f h.works ≡ Some e → (kind_fields e.word).kind ≡ t → (kind_fields e.word).unflushed ≡ false → IsTrue (is_table t) → demand_held f i w h ≡ Some (demand_at t i w)
held_by_work f i w t h e here kind unmarked table =
    ap (λ o. demand_by i w o (lock_on f h.locks)) here
    ∙ ap (λ k. if is_table k && not (kind_fields e.word).unflushed then Some (demand_at k i w) else None) kind
    ∙ ap (λ b. if is_table t && not b then Some (demand_at t i w) else None) unmarked
    ∙ ap (λ b. if b && true then Some (demand_at t i w) else None) table

module _ {b v : PortValue} {f i : ℕ} {t : PageType} {word : ℕ} (l : SeesLast b v f i t word) where
  pub look_found : FoundWith (Met b v) (Cell f i) word b.holdings
  unfolding moment_of
  look_found = record { moment = moment_of b (Cell f i) Load kinds.Look None word; was = moves_met b v (Cell f i) Load kinds.Look None word l.look; place = refl; word = refl; hand = refl }

  pub look_goes : (owner pages : ℕ) → Goes b v f i owner pages []
  look_goes owner pages =
      record {
        serves = moves_serves b v (of_entries owner pages) (Cell f i) Load kinds.Look None word l.look (inl refl);
        looks = looks_step b v f i (Cell f i) Load kinds.Look None word l.look (λ g j at. (let same = at in cc, let same = at in cc));
      }

  asks_by : (owner pages g : ℕ) (want : Option PageType) → IsDemandOf g want (Some (demand_at t i word)) → Asked b.post.machine b.post.vcpu (of_entries owner pages) (Met b v) g owner want
  asks_by owner pages g want is =
      demanded f i word b.holdings refl look_found
      (subst (IsDemandOf g want) (sym (held_by_work f i word t b.holdings l.works.top (top_here l) l.works.kind l.works.unmarked l.works.table)) is)
      (sym (ap (λ o. entry_owner (of_entries owner pages) o (lock_on f b.holdings.locks)) (top_here l)))

  pub asks_plain : (owner pages g : ℕ) → demand_at t i word ≡ demands.Read g → Asked b.post.machine b.post.vcpu (of_entries owner pages) (Met b v) g owner None
  asks_plain owner pages g is = asks_by owner pages g None (rw is (refl, tt))

  pub asks_typed : (owner pages g : ℕ) (want : PageType) → demand_at t i word ≡ demands.Typed g want → Asked b.post.machine b.post.vcpu (of_entries owner pages) (Met b v) g owner (Some want)
  asks_typed owner pages g want is = asks_by owner pages g (Some want) (rw is (refl, refl))

  -- its checks are past while it is recorded
  pub passed_by : (owner pages g : ℕ) (want : PageType) → demand_at t i word ≡ demands.Typed g want → (F : Finding) → ((m : _) → Met b v m → F m) → (h : Holdings) → SeenLast f i t word h →
      Passed b.post.machine (of_entries owner pages) F g owner h
  passed_by owner pages g want is F more h s =
      let a = look_found in
      stands f i word s.work refl (record { moment = a.moment; was = more a.moment a.was; place = a.place; word = a.word }) s.here (let n = s.last in omega (arith, n))
      (subst (IsDemandOf g None) (sym (held_by_work f i word t h s.work s.here s.kind s.unmarked s.table)) (rw is (refl, tt)))

-- ---- Behind both looks: the steps of the release of an entry that asks a type, and why it stops.
-- a frame that is opened is that one
abbrev pub IsOf : ℕ → Released → Type 0
IsOf g Given = Unit {0}
IsOf g (Opened h recorded closing) = h ≡ g

-- the entry is shed
pub gone : {b z : PortValue} {f i owner pages : ℕ} {t : PageType} {a : Released} → Goes b z f i owner pages [] → ShowsReleased b z owner pages t a → Releases b z f i t owner pages (Ok a)
gone goes shows = record { serves = goes.serves; stops = tt; kinds = tt; shows = shows; looks = goes.looks }

module _ {b v : PortValue} {f i : ℕ} {t : PageType} {word g : ℕ} {want : PageType} {x : ℕ} (l : SeesKind b v f i t word g want x) (owner pages : ℕ) where
  from_goes : Goes b l.from f i owner pages []
  from_goes = look_goes l.sees.sees owner pages

  pub kind_goes : Goes b v f i owner pages []
  kind_goes = goes_kind from_goes v g x l.look

  look_came : Came l.from v
  look_came = moves_came l.from v (Kind g) Load kinds.Look None x l.look

  pub kind_asks : Asked b.post.machine b.post.vcpu (of_entries owner pages) (Met b v) g owner (Some want)
  kind_asks = asks_still from_goes v g (Some want) (asks_typed l.sees.sees owner pages g want l.sees.asks) look_came

  -- shed, and its frame is the one that is opened
  pub typed_shows : (z : PortValue) (a : Released) → IsOf g a → Progress (Met b z) → Came v z → ShowsReleased b z owner pages t a
  typed_shows z Given is progress came = progress
  typed_shows z (Opened h recorded closing) is progress came = (
    progress,
    subst (λ (n : ℕ). AsksBelow b z owner pages t n) (sym is)
        (subst (λ (k : PageType). Asked b.post.machine b.post.vcpu (of_entries owner pages) (Met b z) g owner (Some k)) (asks_below t i word g want l.sees.asks) (asks_still kind_goes z g (Some want) kind_asks came)),
  )

  found_there : FoundWith (Met b v) (Kind g) x l.from.holdings
  unfolding moment_of
  found_there =
      record { moment = moment_of l.from (Kind g) Load kinds.Look None x; was = met_after b l.from v _ (goes_came from_goes) (moves_met l.from v (Kind g) Load kinds.Look None x l.look); place = refl; word = refl; hand = refl }

  -- ---- another vCPU has it in its hand
  pub busy_releases : (k : KindWord) → kind_read x ≡ Some k → k.validated ≡ false → k.partial ≡ false → Releases b v f i t owner pages (Err (Paused (Busy g x)))
  unfolding Stops
  busy_releases k read off none =
      let work = found_work l k read off none in
      let fields = fields_of x k read in
      record {
        serves = kind_goes.serves;
        stops = inl (
          owner,
          Some want,
          l.from.holdings,
          kind_asks,
          found_there,
          passed_by l.sees.sees owner pages g want l.sees.asks (Met b v) (λ m a. met_before b l.from v m a look_came) l.from.holdings (from_seen l),
          rw fields (rw work refl),
          rw (fields, found_kind l k read) (when_eq _ _ refl),
          found_elsewhere l k read work,
        );
        kinds = tt;
        shows = tt;
        looks = kind_goes.looks;
      }

  -- ---- it is partial, and one exchange is to bring it into the own works
  module _ (k : KindWord) (read : kind_read x ≡ Some k) (partial : IsTrue (is_partial k)) (w : PortValue) (found : ℕ) (change : Moves v w (Kind g) (Cas (kind_write k) (kind_write (resumed_kind k))) kinds.Kind None found) where
    is_now : IsTrue (is_kind k)
    is_now = (read_is x k read).0

    is_next : IsTrue (is_kind (resumed_kind k))
    is_next = resumed_is k is_now partial

    may_type : MayType b.post.machine b.post.vcpu (of_entries owner pages) (Met b w) g (Cas (kind_write k) (kind_write (resumed_kind k))) found v.holdings
    may_type =
        inl (
          owner,
          subst (λ (y : PageType). Asked b.post.machine b.post.vcpu (of_entries owner pages) (Met b w) g owner (Some y))
              (sym (ap (λ (y : KindWord). y.kind) (fields_write (resumed_kind k) is_next) ∙ found_kind l k read))
              (asks_still kind_goes w g (Some want) kind_asks (moves_came v w (Kind g) (Cas (kind_write k) (kind_write (resumed_kind k))) kinds.Kind None found change)),
          passed_by l.sees.sees owner pages g want l.sees.asks (Met b w)
              (λ m a. met_before b l.from w m a (came_trans l.from v w look_came (moves_came v w (Kind g) (Cas (kind_write k) (kind_write (resumed_kind k))) kinds.Kind None found change))) v.holdings (now_seen l),
        )

    tried : Serves b w (of_entries owner pages) (deeds_by (Kind g) (Cas (kind_write k) (kind_write (resumed_kind k))) kinds.Kind found v.holdings ++ [])
    tried = serves_step b v w (of_entries owner pages) [] (Kind g) (Cas (kind_write k) (kind_write (resumed_kind k))) kinds.Kind None found kind_goes.serves change may_type

    no_deed : exchanged (Kind g) (kind_write k) (kind_write (resumed_kind k)) ≡ []
    no_deed =
        ap (λ (y : KindWord). pin_deed g y.pinned (kind_fields (kind_write (resumed_kind k))).pinned) (fields_write k is_now) ∙ ap (λ (y : KindWord). pin_deed g k.pinned y.pinned) (fields_write (resumed_kind k) is_next) ∙ no_pin g k.pinned

    pub resumed_goes : found ≡ kind_write k → Goes b w f i owner pages []
    resumed_goes at =
        goes_step b v w f i owner pages [] (Kind g) (Cas (kind_write k) (kind_write (resumed_kind k))) kinds.Kind None found [] kind_goes change (λ h j same. let y = same in cc)
        (subst (λ ds. Serves b w (of_entries owner pages) (ds ++ []))
        (ap (λ y. if y then exchanged (Kind g) (kind_write k) (kind_write (resumed_kind k)) else (Misses (Kind g) ∷ [])) (when_eq found (kind_write k) at) ∙ no_deed) tried)

    missed_serves : (place : ℕ) → place ≡ number (sizes_of b.post.machine) (Kind g) → found ≢ kind_write k → Serves b w (of_entries owner pages) (missed_at (place_at (sizes_of b.post.machine) place))
    missed_serves place at off =
        let there : place_at (sizes_of b.post.machine) place ≡ Kind g = ap (λ y. place_at (sizes_of b.post.machine) y) at ∙ place_back (sizes_of b.post.machine) (Kind g) (subst (λ (p : Post). IsTrue (is_place (sizes_of p.machine) (Kind g))) (kind_post l) change.may.place) in
        rw there
        (subst (λ y. Serves b w (of_entries owner pages) ((if y then exchanged (Kind g) (kind_write k) (kind_write (resumed_kind k)) else (Misses (Kind g) ∷ [])) ++ [])) (when_ne found (kind_write k) off) tried)

    just_looked : last_since (sizes_of b.post.machine) (length l.from.holdings.steps) (Kind g) v.holdings.steps ≡ Some x
    unfolding left_by
    just_looked =
        subst (λ (p : Post). last_since (sizes_of p.machine) (length l.from.holdings.steps) (Kind g) v.holdings.steps ≡ Some x) (ap (λ (q : PortValue). q.post) l.sees.sees.hand)
        (last_left l.from v (Kind g) Load kinds.Look None x l.look (length l.from.holdings.steps) (omega arith))

    pub lost_releases : (place : ℕ) → place ≡ number (sizes_of b.post.machine) (Kind g) → found ≢ kind_write k → Releases b w f i t owner pages (Err (Paused (Lost place x found)))
    unfolding Stops moment_of
    lost_releases place at off =
        record {
          serves = missed_serves place at off;
          stops = (
            Kind g,
            at,
            (λ e. cc),
            (
              record {
                before = moment_of l.from (Kind g) Load kinds.Look None x;
                exchange = moment_of v (Kind g) (Cas (kind_write k) (kind_write (resumed_kind k))) kinds.Kind None found;
                new = kind_write (resumed_kind k);
                was_before = met_before b v w _ (met_after b l.from v _ (goes_came from_goes) (moves_met l.from v (Kind g) Load kinds.Look None x l.look)) (moves_came v w (Kind g) (Cas (kind_write k) (kind_write (resumed_kind k))) kinds.Kind None found change);
                was_exchange = met_after b v w _ (goes_came kind_goes) (moves_met v w (Kind g) (Cas (kind_write k) (kind_write (resumed_kind k))) kinds.Kind None found change);
                place_before = refl;
                place = refl;
                act = ap (λ y. Cas y (kind_write (resumed_kind k))) (sym (read_is x k read).1);
                word = refl;
                last = just_looked;
                other = λ e. off (e ∙ (read_is x k read).1);
              },
              subst (λ y. MayType b.post.machine b.post.vcpu (of_entries owner pages) (Met b w) g (Cas y (kind_write (resumed_kind k))) found v.holdings) (sym (read_is x k read).1) may_type,
            ),
          );
          kinds = tt;
          shows = tt;
          looks = (goes_step b v w f i owner pages [] (Kind g) (Cas (kind_write k) (kind_write (resumed_kind k))) kinds.Kind None found _ kind_goes change (λ h j same. let y = same in cc) tried).looks;
        }

  -- ---- it is live: shed by a look at its reference word, and its type count given back
  module _ (w : PortValue) (upto y : ℕ) (look : Moves v w (Refs g) Load kinds.Look (Some (Shed f upto)) y) where
    live_goes : Goes b w f i owner pages []
    live_goes = goes_shed_refs w kind_goes f upto y g look

    live_asks : Asked b.post.machine b.post.vcpu (of_entries owner pages) (Met b w) g owner (Some want)
    live_asks = asks_still kind_goes w g (Some want) kind_asks (moves_came v w (Refs g) Load kinds.Look (Some (Shed f upto)) y look)

    pub back_releases : (z : PortValue) (a : Released) → IsOf g a → Serves w z (of_back g) [] → Releases b z f i t owner pages (Ok a)
    back_releases z a is back =
        let goes = goes_back live_goes z g (Some want) live_asks back in
        let came = serves_came w z (of_back g) [] back in
        gone goes (typed_shows z a is (shed_shows w kind_goes (Refs g) f upto y look z came) (came_trans v w z (moves_came v w (Refs g) Load kinds.Look (Some (Shed f upto)) y look) came))

    pub two_back_releases : (z q : PortValue) (a : Released) → IsOf g a → Serves w z (of_back g) [] → Serves z q (of_back g) [] → Releases b q f i t owner pages (Ok a)
    two_back_releases z q a is one two = back_releases q a is (serves_then w z q (of_back g) [] [] one two)
