-- The last recorded entry of a table, given back, is determined by the words that are found.
use Rattle.std.proofs.Common.{◌≡◌, ◌≢◌, ◌==◌, ℕ, Bool, true, false, List, [], ◌∷◌, ◌++◌, Some, None, Result, Ok, Err, sym, ap, ◌∙◌, subst, inl, inr}
use Rattle.xp_words.specs.Entries.{demand_at}
use Rattle.xp_words.specs.KindWords.{kind_fields, kind_write}
use Rattle.xp_words.specs.Machine.{Machine}
use Rattle.xp_words.specs.PageTypes.{is_table}
use Rattle.xp_words.specs.Places.{number, sizes_of}
use Rattle.xp_words.specs.declared.entry.Demand.{Demand}
use Rattle.xp_words.specs.declared.entry.Demand.TheVariants as demands
use Rattle.xp_words.specs.declared.kind.PageType.{PageType}
use Rattle.xp_words.specs.declared.place.Place.{Place}
use Rattle.xp_words.specs.declared.place.Place.TheVariants.{Cell, Clock, Kind, Refs}
use Rattle.xp_words.specs.declared.reply.Pause.TheVariants.{Lost}
use Rattle.xp_words.specs.declared.reply.Stop.{Stop}
use Rattle.xp_words.specs.declared.reply.Stop.TheVariants.{Paused}
use Rattle.xp_board.specs.declared.step.Act.TheVariants.{Add, Cas, Load}
use Rattle.xp_board.specs.declared.step.Mark.TheVariants.{Shed}
use Rattle.xp_board.specs.KindSteps.{Form, InWork, Live, Partial, Dead, form_of, resumed_kind}
use Rattle.xp_board.specs.RefSteps.{one_down}
use Rattle.step_maker.specs.Visits.{Visit, Only, Then}
use Rattle.kind_words.specs.Kinds.{dead_kind}
use Rattle.frame_types.specs.Found.{StoresKind, swaps_kind}
use Rattle.table_words.specs.Entries.{ShedsAt}
use Rattle.table_releases.specs.Found.{ComesBy, DiesShed, FormBy, LiveBy, LowersTable, PartialBy, ReleasedBy, ReleasesBy, TypedReleased, has_recorded}
use Rattle.table_releases.specs.declared.entries.Released.{Released}
use Rattle.determined_laws.specs.Forks.{Forks, Tie}
use Rattle.determined_laws.proofs.References.{put_tie}
use Rattle.determined_laws.proofs.Ties.{fork_here, swapped, tie_lists, tie_map, tie_one}
use Rattle.determined_laws.proofs.Types.{drops_tie, store_tie, then_tie}

module _ (n : Machine) (f i : ℕ) where
  -- a look by which the entry is shed
  sheds_tie : (p : Place) (us vs : List Visit) (a : ShedsAt p f i us) (b : ShedsAt p f i vs) → Tie us vs (a.0 ≡ b.0)
  sheds_tie p us vs a b = tie_lists us vs _ _ _ a.1 b.1 (tie_one _ p Load (Some (Shed f i)) a.0 b.0)

  module _ (g : ℕ) (t : PageType) where
    -- ---- a live frame
    lowers_tie : (last : Bool) (a b : Result Released Stop) (us vs : List Visit) → LowersTable g a last us → LowersTable g b last vs → Tie us vs (a ≡ b)
    lowers_tie true a b us vs p q = inr (p.1 ∙ sym q.1, p.0 ∙ sym q.0)
    lowers_tie false a b us vs p q = tie_map us vs _ _ (put_tie g us vs p.1 q.1) (λ e. p.0 ∙ sym q.0)

    live_tie : (table : Bool) (a b : Result Released Stop) (us vs : List Visit) → LiveBy g t a table us → LiveBy g t b table vs → Tie us vs (a ≡ b)
    live_tie true a b us vs p q =
        then_tie _ _ _ _ us vs (p.0 ≡ q.0) _ p.1 q.1 (tie_lists _ _ _ _ _ p.1.first q.1.first (tie_one _ (Kind g) (Add one_down) None p.0 q.0))
        (λ e. lowers_tie ((kind_fields q.0).number == 1) a b p.1.after q.1.after (subst (λ z. LowersTable g a ((kind_fields z).number == 1) p.1.after) e p.1.next) q.1.next)
    live_tie false a b us vs p q = tie_map us vs _ _ (drops_tie g t us vs p.1 q.1) (λ e. p.0 ∙ sym q.0)

    -- ---- a partial frame
    dies_tie : (marked : Bool) (us vs : List Visit) → DiesShed f i g t marked us → DiesShed f i g t marked vs → Tie us vs (Unit {0})
    dies_tie marked us vs p q =
        then_tie _ _ _ _ us vs (p.0 ≡ q.0) _ p.1 q.1 (tie_lists _ _ _ _ _ p.1.first q.1.first (tie_one _ Clock Load (Some (Shed f i)) p.0 q.0))
        (λ e. let s = p.1.next in let r = q.1.next in
        then_tie _ _ _ _ p.1.after q.1.after (Unit {0}) _ s r (store_tie g (dead_kind t marked q.0) s.before r.before (subst (λ z. StoresKind g (dead_kind t marked z) s.before) e s.first) r.first)
        (λ k. put_tie g s.after r.after s.next r.next))

    module _ (x : ℕ) where
      abbrev swap : ℕ → Visit
      swap y = swaps_kind g x (resumed_kind (kind_fields x)) y

      comes_tie : (has : Bool) (a b : Result Released Stop) (us vs : List Visit) → ComesBy f i g t x a has us → ComesBy f i g t x b has vs → Tie us vs (a ≡ b)
      comes_tie true a b us vs p q = tie_map us vs _ _ (sheds_tie (Refs g) us vs p.2 q.2) (λ e. p.0 ∙ sym q.0)
      comes_tie false a b us vs p q = tie_map us vs _ _ (dies_tie (kind_fields x).unflushed us vs p.1 q.1) (λ e. p.0 ∙ sym q.0)

      -- by one exchange, which was done or not
      data Comes (a : Result Released Stop) : List Visit → Type 0 where
        came : (vs : List Visit) → Then (Only (swap x)) (λ cs. ComesBy f i g t x a (has_recorded t (kind_fields x)) cs) vs → Comes a vs
        overtaken : (y : ℕ) (vs : List Visit) → y ≢ x → a ≡ Err (Paused (Lost (number (sizes_of n) (Kind g)) x y)) → Only (swap y) vs → Comes a vs

      comes : (a : Result Released Stop) (vs : List Visit) → PartialBy n f i g t x a vs → Comes a vs
      comes (Err (Paused (Lost place expected y))) vs p = overtaken y vs p.2 (ap (λ z. Err (Paused (Lost z expected y))) p.0 ∙ ap (λ z. Err (Paused (Lost (number (sizes_of n) (Kind g)) z y))) p.1) p.3
      comes (Ok a) vs p = came vs p
      comes (Err e) vs p = came vs p

      apart : (y : ℕ) (a b : Result Released Stop) (us vs : List Visit) → y ≢ x → Then (Only (swap x)) (λ cs. ComesBy f i g t x a (has_recorded t (kind_fields x)) cs) us → Only (swap y) vs → Forks us vs
      apart y a b us vs off p q =
          subst (λ z. Forks z vs) (sym (p.list ∙ ap (λ z. p.after ++ z) p.first)) (subst (λ z. Forks (p.after ++ (swap x ∷ [])) z) (sym q)
          (fork_here _ (Kind g) (Cas x (kind_write (resumed_kind (kind_fields x)))) None x y p.after [] (λ e. off (sym e))))

      came_tie : (a b : Result Released Stop) (us vs : List Visit) → Comes a us → Comes b vs → Tie us vs (a ≡ b)
      came_tie a b _ _ (came us p) (came vs q) =
          then_tie _ _ _ _ us vs (Unit {0}) _ p q (inr (p.first ∙ sym q.first, tt)) (λ e. comes_tie (has_recorded t (kind_fields x)) a b p.after q.after p.next q.next)
      came_tie a b _ _ (came us p) (overtaken y vs off is q) = inl (apart y a b us vs off p q)
      came_tie a b _ _ (overtaken y us off is p) (came vs q) = inl (swapped vs us (apart y b a vs us off q p))
      came_tie a b _ _ (overtaken y us off is p) (overtaken z vs out also q) =
          tie_lists us vs _ _ _ p q (tie_map _ _ _ _ (tie_one _ (Kind g) (Cas x (kind_write (resumed_kind (kind_fields x)))) None y z) (λ e. is ∙ (ap (λ k. Err (Paused (Lost (number (sizes_of n) (Kind g)) x k))) e ∙ sym also)))

      -- ---- by the kind word that was found
      form_tie : (form : Form) (a b : Result Released Stop) (us vs : List Visit) → FormBy n f i g t x a form us → FormBy n f i g t x b form vs → Tie us vs (a ≡ b)
      form_tie Live a b us vs p q = then_tie _ _ _ _ us vs (p.first.0 ≡ q.first.0) _ p q (sheds_tie (Refs g) p.before q.before p.first q.first) (λ e. live_tie (is_table t) a b p.after q.after p.next q.next)
      form_tie Partial a b us vs p q = came_tie a b us vs (comes a us p) (comes b vs q)
      form_tie InWork a b us vs p q = inr (p.1 ∙ sym q.1, p.0 ∙ sym q.0)
      form_tie Dead a b us vs p q = inr (p.1 ∙ sym q.1, p.0 ∙ sym q.0)

    typed_tie : (a b : Result Released Stop) (us vs : List Visit) → TypedReleased n f i g t a us → TypedReleased n f i g t b vs → Tie us vs (a ≡ b)
    typed_tie a b us vs p q =
        then_tie _ _ _ _ us vs (p.0 ≡ q.0) _ p.1 q.1 (tie_lists _ _ _ _ _ p.1.first q.1.first (tie_one _ (Kind g) Load None p.0 q.0))
        (λ e. form_tie q.0 (form_of (kind_fields q.0)) a b p.1.after q.1.after (subst (λ z. FormBy n f i g t z a (form_of (kind_fields z)) p.1.after) e p.1.next) q.1.next)

  -- ---- by what the entry asks
  releases_tie : (d : Demand) (a b : Result Released Stop) (us vs : List Visit) → ReleasesBy n f i a d us → ReleasesBy n f i b d vs → Tie us vs (a ≡ b)
  releases_tie demands.Nothing a b us vs p q = tie_map us vs _ _ (sheds_tie Clock us vs p.1 q.1) (λ e. p.0 ∙ sym q.0)
  releases_tie demands.Bad a b us vs p q = tie_map us vs _ _ (sheds_tie Clock us vs p.1 q.1) (λ e. p.0 ∙ sym q.0)
  releases_tie (demands.Read g) a b us vs p q =
      let s = p.1 in
      let r = q.1 in
      then_tie _ _ _ _ us vs (s.first.0 ≡ r.first.0) _ s r (sheds_tie Clock s.before r.before s.first r.first) (λ e. tie_map s.after r.after _ _ (put_tie g s.after r.after s.next r.next) (λ z. p.0 ∙ sym q.0))
  releases_tie (demands.Typed g t) a b us vs p q = typed_tie g t a b us vs p q

  pub released_tie : (t : PageType) (a b : Result Released Stop) (us vs : List Visit) → ReleasedBy n f i t a us → ReleasedBy n f i t b vs → Tie us vs (a ≡ b)
  released_tie t a b us vs p q =
      then_tie _ _ _ _ us vs (p.0 ≡ q.0) _ p.1 q.1 (tie_lists _ _ _ _ _ p.1.first q.1.first (tie_one _ (Cell f i) Load None p.0 q.0))
      (λ e. releases_tie (demand_at t i q.0) a b p.1.after q.1.after (subst (λ z. ReleasesBy n f i a (demand_at t i z) p.1.after) e p.1.next) q.1.next)
