-- The frame that the last recorded entry of the innermost table names is to be released first: it is the innermost table then.
use Rattle.std.proofs.Common.{◌≡◌, ℕ, ◌+◌, ◌-◌, ◌≤◌, not, Bool, true, false, List, ◌∷◌, length, None, Some, IsTrue, refl, sym, ap, ◌∙◌, subst, arith, inl, inr}
use Rattle.std.proofs.lemmas.Bool.{cases_eq}
use Rattle.xp_words.specs.Entries.{below}
use Rattle.xp_words.specs.PageTypes.{is_table}
use Rattle.xp_words.specs.Places.{sizes_of}
use Rattle.xp_words.specs.declared.entry.Demand.TheVariants.{Typed}
use Rattle.xp_board.specs.Told.{PortValue}
use Rattle.xp_board.specs.declared.holdings.Holdings.{Holdings}
use Rattle.xp_board.specs.declared.holdings.Reference.{Reference}
use Rattle.xp_board.specs.declared.holdings.TypedReference.{TypedReference}
use Rattle.xp_board.specs.declared.holdings.Work.{Work}
use Rattle.step_maker.specs.Holds.{Holds, still}
use Rattle.step_maker.specs.Moves.{Came}
use Rattle.flush_words.proofs.Lasting.{came_longer}
use Rattle.flush_waits.proofs.Growing.{came_grows}
use Rattle.partial_state.proofs.LevelFacts.{level_type-under}
use Rattle.partial_state.specs.Levels.{level_type}
use Rattle.partial_state.specs.Stacks.{IsTable, IsUnder}
use Rattle.partial_state.specs.declared.stack.TableWork.{TableWork}
use Rattle.table_releases.specs.Tops.{IsSettledTop, IsSince, OwnsReleased, Reopens, shed_once}
use Rattle.table_releases.specs.declared.entries.Released.TheVariants.{Opened}
use Rattle.level_release.specs.Course.{one_more_done, table_under}
use Rattle.level_release.specs.Holding.{AreRefs, AreOwnTyped, Empties, IsAround, IsReleasedWork, RefFor, TypedIfOwn}
use Rattle.level_release.proofs.Hands.{hands_by, tables_done, tables_later, typed_later}
use Rattle.level_release.proofs.HandsApart.{FirstFound}
use Rattle.level_release.proofs.HandsGiven.{shed_hand, shed_is, shed_work}
use Rattle.level_release.proofs.HandsKnown.{Still, known_still, owned_still, still_more, still_same}
use Rattle.level_release.proofs.HandsTop.{top}

-- ---- a reference more
pub ref_more : (own : Bool) {f : ℕ} (P : List Reference → Type 0) {r : Reference} {xs ys : List Reference} → own ≡ false → r.frame ≡ f → ys ≡ r ∷ xs → P xs → RefFor own f P ys
ref_more true P off at are rest = absurd cc
ref_more false P {r} {xs} off at are rest = (r, xs, at, are, rest)

pub ref_none : (own : Bool) (f : ℕ) (P : List Reference → Type 0) (xs : List Reference) → own ≡ true → P xs → RefFor own f P xs
ref_none true f P xs on rest = rest
ref_none false f P xs on rest = absurd cc

pub typed_more : (own : Bool) (made : ℕ) {f : ℕ} (P : List TypedReference → Type 0) {r : TypedReference} {xs ys : List TypedReference} → own ≡ true → r.frame ≡ f → IsSince made r.live → ys ≡ r ∷ xs → P xs → TypedIfOwn own made f P ys
typed_more true made P {r} {xs} on at since are rest = (r, xs, at, since, are, rest)
typed_more false made P on at since are rest = absurd cc

pub typed_none : (own : Bool) (made f : ℕ) (P : List TypedReference → Type 0) (xs : List TypedReference) → own ≡ false → P xs → TypedIfOwn own made f P xs
typed_none true made f P xs off rest = absurd cc
typed_none false made f P xs off rest = rest

-- ---- its level
pub level_under : (l : ℕ) → 1 ≤ l → IsTrue (is_table (below (level_type l))) → 1 ≤ l - 1
level_under l low table =
    elim (cases_eq l 1) [
      | inl one ↦ absurd (let t : IsTrue (is_table (below (level_type 1))) = subst (λ k. IsTrue (is_table (below (level_type k)))) one table in cc)
      | inr other ↦ omega (arith, low, other)
    ]

module _ {h : Holdings} {v : PortValue} {t : TableWork} {ts : List TableWork} (s : Empties h v (t ∷ ts)) (first : FirstFound v) (i : ℕ) (next : i + 1 + t.done ≡ 512) (g recorded : ℕ) (closing : Bool)
    (w : PortValue) (r : Reopens v w t.frame i (level_type t.level) g recorded closing) where
  abbrev new : TableWork
  new = table_under t g recorded closing

  outer : Work
  outer = shed_work i r.word (top s).work

  low : 1 ≤ t.level - 1
  low = level_under t.level s.stack.0.low r.table

  pub opened_table : IsTable new
  opened_table = let high = s.stack.0.high in let one = low in record { low = one; high = omega (arith, high); done = omega arith }

  pub opened_under : IsUnder new (one_more_done t ∷ ts)
  opened_under = let one = low in omega (arith, one)

  new_type : below (level_type t.level) ≡ level_type new.level
  new_type = level_type-under t.level s.stack.0.low s.stack.0.high

  not_own : (b : Bool) → not b ≡ true → b ≡ false
  not_own true is = absurd cc
  not_own false is = refl

  not_lent : (b : Bool) → not b ≡ false → b ≡ true
  not_lent true is = refl
  not_lent false is = absurd cc

  new_is : IsReleasedWork (sizes_of v.post.machine) (length w.holdings.steps) new r.work
  new_is =
      let few = r.few in
      let is = r.recorded_is in
      record {
        inside = r.inside;
        frame = r.frame;
        kind = r.kind ∙ new_type;
        unmarked = r.unmarked;
        recorded = omega (arith, few, is);
        work = λ own. r.in_work (not_own closing own);
        closing = λ lent. r.closing_is ∙ not_lent closing lent;
        earlier = r.earlier;
      }

  new_inside : IsAround (one_more_done t) outer new
  unfolding outer
  new_inside = record { settled = refl; word = r.word; seen = refl; asks = r.asks ∙ ap (λ k. Typed g k) new_type; inside = omega (arith, next) }

  module _ (came : Came v w) (owns : OwnsReleased v w t.frame (Opened g recorded closing)) where
    opened_by : (rs : List Reference) (ys : List TypedReference) → Holds v w (record v.holdings { refs = rs; typed = ys; works = r.work ∷ outer ∷ (top s).others }) → AreRefs h.refs (new ∷ one_more_done t ∷ ts) rs →
        AreOwnTyped (length w.holdings.steps) (new ∷ one_more_done t ∷ ts) ys → ((f : ℕ) → Still (λ (e : Reference). e.frame) f v.holdings.refs rs) → ((f : ℕ) → Still (λ (e : TypedReference). e.frame) f v.holdings.typed ys) →
        Empties h w (new ∷ one_more_done t ∷ ts)
    unfolding outer
    opened_by rs ys holds refs typed still_refs still_typed =
        let z = sizes_of v.post.machine in
        let o = top s in
        hands_by w (new ∷ one_more_done t ∷ ts) rs ys (r.work ∷ outer ∷ o.others) s holds
        (opened_table, opened_under, (record { low = s.stack.0.low; high = s.stack.0.high; done = omega (arith, next) }, s.stack.1, s.stack.2)) (
          new_is,
          tt,
          tables_later z (length v.holdings.steps) (length w.holdings.steps) (Some new) (one_more_done t ∷ ts) (outer ∷ o.others) (came_longer v w came)
              (shed_is i r.word next o.is, new_inside, tables_done z (length v.holdings.steps) t (t.done + 1) ts o.others o.around),
        )
        refs typed (
          owns s.owner s.owned.0,
          owned_still z s.owner (t ∷ ts) v.holdings w.holdings
              (λ f. known_still z f s.owner v.holdings w.holdings (came_grows v w came)
              (subst (λ xs. Still (λ (e : Reference). e.frame) f v.holdings.refs xs) (sym (ap (λ (q : PortValue). q.holdings.refs) holds)) (still_refs f))
              (subst (λ xs. Still (λ (e : TypedReference). e.frame) f v.holdings.typed xs) (sym (ap (λ (q : PortValue). q.holdings.typed) holds)) (still_typed f))
              (ap (λ (q : PortValue). q.holdings.locks) holds)) s.owned,
        )

    pub opened_stands : Empties h w (new ∷ one_more_done t ∷ ts)
    unfolding outer
    opened_stands = by_closing closing refl
      where
        by_closing : (b : Bool) → closing ≡ b → Empties h w (new ∷ one_more_done t ∷ ts)
        by_closing true is =
            let u = r.holding.untyped is in
            let one = u.0 in
            let own : new.own ≡ false = ap (λ b. not b) is in
            opened_by (one ∷ v.holdings.refs) v.holdings.typed
            (r.hand ∙ ap (λ (k : Holdings). still (record v { holdings = k })) u.2
            ∙ ap (λ (k : Holdings). still (record v { holdings = record k { refs = one ∷ k.refs; works = r.work ∷ k.works } })) (shed_hand s first i r.word))
            (ref_more new.own (AreRefs h.refs (one_more_done t ∷ ts)) own u.1 refl s.refs)
            (typed_none new.own (length w.holdings.steps) g (AreOwnTyped (length w.holdings.steps) (one_more_done t ∷ ts)) v.holdings.typed own
            (typed_later (length v.holdings.steps) (length w.holdings.steps) (t ∷ ts) v.holdings.typed (came_longer v w came) s.types))
            (λ f. still_more (λ (e : Reference). e.frame) f refl) (λ f. still_same (λ (e : TypedReference). e.frame) f refl)
        by_closing false is =
            let u = r.holding.typed is in
            let one = u.0 in
            let own : new.own ≡ true = ap (λ b. not b) is in
            let holds : Holds v w (record v.holdings { refs = v.holdings.refs; typed = one ∷ v.holdings.typed; works = r.work ∷ outer ∷ (top s).others }) =
            r.hand ∙ ap (λ (k : Holdings). still (record v { holdings = k })) u.3
            ∙ ap (λ (k : Holdings). still (record v { holdings = record k { typed = one ∷ k.typed; works = r.work ∷ k.works } })) (shed_hand s first i r.word) in
            opened_by v.holdings.refs (one ∷ v.holdings.typed) holds
            (ref_none new.own g (AreRefs h.refs (one_more_done t ∷ ts)) v.holdings.refs own s.refs)
            (typed_more new.own (length w.holdings.steps) (AreOwnTyped (length w.holdings.steps) (one_more_done t ∷ ts)) own u.1
            (r.since is one v.holdings.typed (ap (λ (q : PortValue). q.holdings.typed) holds)) refl
            (typed_later (length v.holdings.steps) (length w.holdings.steps) (t ∷ ts) v.holdings.typed (came_longer v w came) s.types))
            (λ f. still_same (λ (e : Reference). e.frame) f refl) (λ f. still_more (λ (e : TypedReference). e.frame) f refl)

  pub opened_settled : closing ≡ true → IsSettledTop w.holdings
  opened_settled is work others are =
      let works = ap (λ (q : PortValue). q.holdings.works) r.hand ∙ ap (λ (k : Holdings). k.works) (r.holding.untyped is).2 in
      let both : work ∷ others ≡ r.work ∷ (shed_once t.frame i r.word v.holdings).works = sym are ∙ works in
      let one : r.work ≡ work = cc in
      subst (λ (y : Work). y.unsettled ≡ None) one (r.settled is)
