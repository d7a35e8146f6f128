-- Who owns a table that is to be released first: the owner of the table that names it, found by the look that sheds the entry.
use Rattle.std.proofs.Common.{◌≡◌, ℕ, ◌==◌, ◌&&◌, ◌||◌, if◌then◌else◌, Bool, true, false, List, [], ◌∷◌, length, Some, None, IsTrue, refl, sym, ap, ◌∙◌, subst, arith}
use Rattle.std.proofs.lemmas.Bool.{or_left, or_right}
use Rattle.xp_words.specs.Entries.{below, demand_at, is_lowest}
use Rattle.xp_words.specs.PageTypes.{is_table}
use Rattle.xp_words.specs.Places.{Sizes, sizes_of}
use Rattle.xp_words.specs.declared.entry.Demand.TheVariants.{Typed}
use Rattle.xp_words.specs.declared.kind.KindWord.{KindWord}
use Rattle.xp_words.specs.declared.kind.PageType.{PageType}
use Rattle.xp_words.specs.declared.kind.PageType.TheVariants as types
use Rattle.xp_words.specs.declared.place.Place.TheVariants.{Refs}
use Rattle.xp_board.specs.declared.holdings.Holdings.{Holdings}
use Rattle.xp_board.specs.declared.holdings.Lock.{Lock}
use Rattle.xp_board.specs.declared.holdings.Reference.{Reference}
use Rattle.xp_board.specs.declared.holdings.TypedReference.{TypedReference}
use Rattle.xp_board.specs.declared.step.Act.TheVariants.{Load}
use Rattle.xp_board.specs.declared.step.Mark.TheVariants.{Shed}
use Rattle.xp_board.specs.declared.step.StepKind.TheVariants as kinds
use Rattle.xp_board.specs.Acts.{left_by}
use Rattle.xp_board.specs.After.{learned_lock}
use Rattle.xp_board.specs.Hands.{changed_lock, owner_by_typed, owner_from, typed_on, typed_owner}
use Rattle.xp_board.specs.Knowledge.{knows_owner, tells_owner}
use Rattle.xp_board.specs.Lists.{changed_by, some_of}
use Rattle.xp_board.specs.Readings.{is_live_word, is_owned_by, owner_of}
use Rattle.xp_board.specs.Told.{Post, PortValue}
use Rattle.xp_board.proofs.ListCounts.{first_by-cons_here}
use Rattle.xp_board.proofs.Sums.{when_eq}
use Rattle.step_maker.specs.Holds.{Holds}
use Rattle.step_maker.specs.Moves.{Moves}
use Rattle.step_maker.proofs.Coming.{moves_came}
use Rattle.step_maker.proofs.Noting.{moves_since}
use Rattle.frame_types.specs.Lowering.{DropsType}
use Rattle.flush_waits.proofs.Growing.{came_grows, knows_later}
use Rattle.table_entries.proofs.HandLists.{asks_below}
use Rattle.table_entries.proofs.LastEntry.{SeenLast, finds_owned, seen_asks}
use Rattle.table_words.specs.Entries.{entry_shed}
use Rattle.table_releases.specs.Between.{Resumed, SeesKind}
use Rattle.table_releases.proofs.FrameSeen.{kind_came, kind_post, now_seen}
use Rattle.table_releases.proofs.HandLive.{came_in, closed, closed_ref, live_shed, newest, resumed_newest, resumed_post, resumed_seen, resumed_shed}

-- ---- a look at a cell leaves what is known of owners
some_changed : {A : Type 0} (test : A → Bool) (key : A → ℕ) (f : ℕ) (change : A → A) (xs : List A) → ((x : A) → test (change x) ≡ test x) → some_of test (changed_by key f change xs) ≡ some_of test xs
unfolding some_of changed_by
some_changed test key f change [] kept = refl
some_changed test key f change (x ∷ xs) kept =
    elim (key x == f) as (λ c. some_of test (if c then (change x ∷ xs) else (x ∷ changed_by key f change xs)) ≡ test x || some_of test xs) [ true ↦ rw (kept x) refl | false ↦ rw (some_changed test key f change xs kept) refl ]

known_looked : (z : Sizes) (f o g i w : ℕ) (h : Holdings) → IsTrue (knows_owner z f o h) → IsTrue (knows_owner z f o (record h { locks = changed_lock g (learned_lock i w) h.locks }))
unfolding knows_owner
known_looked z f o g i w h knows = rw (some_changed (λ (e : Lock). (e.frame == f) && tells_owner z h.steps f o e.owner) (λ (e : Lock). e.frame) g (learned_lock i w) h.locks (λ e. refl)) knows

-- tables whose entries name tables are above level 1
above_one : (t : PageType) → IsTrue (is_table (below t)) → is_lowest t ≡ false
above_one types.L4 is = refl
above_one types.L3 is = refl
above_one types.L2 is = refl
above_one types.L1 is = absurd cc
above_one types.Desc is = refl
above_one types.Writable is = refl
above_one types.None is = refl

owned_is : (y o : ℕ) → owner_of y ≡ Some o → is_owned_by o y ≡ true
owned_is y o is = rw is (when_eq o o refl)

-- by the newest typed reference in hand, or by the newest untyped one
known_first : (z : Sizes) (f o : ℕ) (e : TypedReference) (xs : List TypedReference) (h : Holdings) → h.typed ≡ e ∷ xs → e.frame ≡ f → tells_owner z h.steps f o e.owner ≡ true → IsTrue (knows_owner z f o h)
unfolding knows_owner some_of
known_first z f o e xs h is at tells =
    let first : IsTrue (some_of (λ (x : TypedReference). (x.frame == f) && tells_owner z h.steps f o x.owner) h.typed) = rw (is, when_eq e.frame f at, tells) refl in
    or_right _ _ (or_left _ _ first)

known_by_ref : (z : Sizes) (f o : ℕ) (e : Reference) (xs : List Reference) (h : Holdings) → h.refs ≡ e ∷ xs → e.frame ≡ f → tells_owner z h.steps f o e.owner ≡ true → IsTrue (knows_owner z f o h)
unfolding knows_owner some_of
known_by_ref z f o e xs h is at tells =
    let first : IsTrue (some_of (λ (x : Reference). (x.frame == f) && tells_owner z h.steps f o x.owner) h.refs) = rw (is, when_eq e.frame f at, tells) refl in
    or_left _ _ first

-- ---- the look at its reference word
look_owns : (v w : PortValue) (f i : ℕ) (t : PageType) (word g : ℕ) (want : PageType) (y : ℕ) → SeenLast f i t word v.holdings → demand_at t i word ≡ Typed g want → is_table want ≡ true →
    Moves v w (Refs g) Load kinds.Look (Some (Shed f i)) y → (o : ℕ) → IsTrue (knows_owner (sizes_of v.post.machine) f o v.holdings) → tells_owner (sizes_of v.post.machine) w.holdings.steps g o (owner_from v.holdings) ≡ true
unfolding left_by
look_owns v w f i t word g want y s asks table look o knows =
    let finds = look.finds in
    let asked = seen_asks finds s ∙ asks in
    let table_owned = (finds.sound.found v.post.vcpu finds.real).owners f o (subst (λ (u : Holdings). IsTrue (knows_owner (sizes_of v.post.machine) f o u)) (sym finds.mine) knows) in
    let above = above_one t (subst (λ x. IsTrue (is_table x)) (asks_below t i word g want asks) table) in
    let owned = finds_owned finds f i t s.work s.here s.kind s.table s.last g want asked o table_owned above in
    let here : owner_of y ≡ Some o = ap owner_of (sym finds.word) ∙ owned in
    moves_since v w (Refs g) Load kinds.Look (Some (Shed f i)) y look (length v.holdings.steps) (is_owned_by o) (omega arith) (owned_is y o here)

module _ {b v : PortValue} {f i : ℕ} {t : PageType} {word g : ℕ} {want : PageType} {x : ℕ} (l : SeesKind b v f i t word g want x) where
  -- the owner of the table is known behind the looks
  pub still_known : (o : ℕ) → IsTrue (knows_owner (sizes_of b.post.machine) f o b.holdings) → IsTrue (knows_owner (sizes_of b.post.machine) f o v.holdings)
  still_known o knows =
      knows_later (sizes_of b.post.machine) f o (record b.holdings { locks = changed_lock f (learned_lock i word) b.holdings.locks }) v.holdings (came_grows b v (kind_came l))
      (ap (λ (q : PortValue). q.holdings.refs) l.same ∙ ap (λ (q : PortValue). q.holdings.refs) l.sees.sees.hand)
      (ap (λ (q : PortValue). q.holdings.typed) l.same ∙ ap (λ (q : PortValue). q.holdings.typed) l.sees.sees.hand)
      (ap (λ (q : PortValue). q.holdings.locks) l.same ∙ ap (λ (q : PortValue). q.holdings.locks) l.sees.sees.hand)
      (known_looked (sizes_of b.post.machine) f o f i word b.holdings knows)

  -- ---- live, and closing then: the untyped reference came from the one that the look brought
  pub live_owned : (live : is_live_word x ≡ true) (w : PortValue) (y : ℕ) (look : Moves v w (Refs g) Load kinds.Look (Some (Shed f i)) y) (shed : Holds v w (entry_shed v.post.machine f i v.holdings)) (z : PortValue) (drops : DropsType w z g true) →
      is_table want ≡ true → (o : ℕ) → IsTrue (knows_owner (sizes_of b.post.machine) f o b.holdings) → IsTrue (knows_owner (sizes_of b.post.machine) g o z.holdings)
  live_owned live w y look shed z drops table o knows =
      let brings = newest l live w shed in
      let typed_are : w.holdings.typed ≡ brings ∷ v.holdings.typed = ap (λ (q : PortValue). q.holdings.typed) (live_shed l live w shed) in
      let owner_is : typed_owner g w.holdings ≡ owner_from v.holdings =
      ap (λ xs. owner_by_typed (typed_on g xs) (owner_from w.holdings)) typed_are ∙ ap (λ e. owner_by_typed e (owner_from w.holdings)) (first_by-cons_here (λ (e : TypedReference). e.frame) g brings v.holdings.typed refl)
      in
      let now_known = subst (λ (p : Post). IsTrue (knows_owner (sizes_of p.machine) f o v.holdings)) (sym (kind_post l)) (still_known o knows) in
      let tells = look_owns v w f i t word g want y (now_seen l) l.sees.asks table look o now_known in
      let later : tells_owner (sizes_of v.post.machine) z.holdings.steps g o (owner_from v.holdings) ≡ true = came_grows w z (moves_came w z _ _ _ _ _ drops.lowers.step) _ tells in
      subst (λ (p : Post). IsTrue (knows_owner (sizes_of p.machine) g o z.holdings)) (kind_post l)
      (known_by_ref (sizes_of v.post.machine) g o (closed_ref l live w shed z drops table) v.holdings.refs z.holdings
      (ap (λ (q : PortValue). q.holdings.refs) (closed l live w shed z drops table)) refl
      (subst (λ e. tells_owner (sizes_of v.post.machine) z.holdings.steps g o e ≡ true) (sym owner_is) later))

-- ---- partial, and in work then
module _ {b v : PortValue} {f i : ℕ} {t : PageType} {word g : ℕ} {want : PageType} {k : KindWord} (r : Resumed b v f i t word g want k) where
  in_known : (o : ℕ) → IsTrue (knows_owner (sizes_of b.post.machine) f o b.holdings) → IsTrue (knows_owner (sizes_of v.post.machine) f o v.holdings)
  in_known o knows =
      subst (λ (p : Post). IsTrue (knows_owner (sizes_of p.machine) f o v.holdings)) (sym (resumed_post r))
      (knows_later (sizes_of b.post.machine) f o r.from.holdings v.holdings (came_grows r.from v (moves_came r.from v _ _ kinds.Kind None _ r.step))
      (ap (λ (q : PortValue). q.holdings.refs) (came_in r)) (ap (λ (q : PortValue). q.holdings.typed) (came_in r))
      (ap (λ (q : PortValue). q.holdings.locks) (came_in r)) (still_known r.sees o knows))

  pub resumed_owned : (w : PortValue) (y : ℕ) → Moves v w (Refs g) Load kinds.Look (Some (Shed f i)) y → Holds v w (entry_shed v.post.machine f i v.holdings) → is_table want ≡ true → (o : ℕ) →
      IsTrue (knows_owner (sizes_of b.post.machine) f o b.holdings) → IsTrue (knows_owner (sizes_of b.post.machine) g o w.holdings)
  resumed_owned w y look shed table o knows =
      let tells = look_owns v w f i t word g want y (resumed_seen r) r.sees.sees.asks table look o (in_known o knows) in
      subst (λ (p : Post). IsTrue (knows_owner (sizes_of p.machine) g o w.holdings)) (resumed_post r)
      (known_first (sizes_of v.post.machine) g o (resumed_newest r w shed) r.from.holdings.typed w.holdings (ap (λ (q : PortValue). q.holdings.typed) (resumed_shed r w shed)) refl tells)
