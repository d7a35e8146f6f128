-- Recorded entries after an act: those that were recorded before, and what they lead to.
use Rattle.std.proofs.Common.{◌≡◌, ◌≢◌, ℕ, ◌<◌, ◌||◌, ◌⊎◌, Bool, true, ◌∷◌, None, IsTrue, refl, sym, ◌∙◌, ap, inl, inr, arith}
use Rattle.std.proofs.lemmas.Bool.{cases_eq}
use Rattle.xp_words.specs.declared.kind.PageType.{PageType}
use Rattle.xp_words.specs.declared.entry.Demand.TheVariants.{Typed}
use Rattle.xp_words.specs.Entries.{demand_at}
use Rattle.xp_words.specs.Machine.{Machine}
use Rattle.xp_words.specs.declared.place.Place.{Place}
use Rattle.xp_words.specs.declared.place.Place.TheVariants.{Kind, Cell}
use Rattle.xp_words.specs.Places.{sizes_of}
use Rattle.xp_board.specs.declared.step.Step.{Step}
use Rattle.xp_board.specs.declared.holdings.Made.{Made}
use Rattle.xp_board.specs.declared.holdings.Holdings.{Holdings}
use Rattle.xp_board.specs.Acts.{left_by}
use Rattle.xp_board.specs.Hands.{work_on}
use Rattle.xp_board.specs.Readings.{kind_at, is_live, is_work, is_partial, is_live_word}
use Rattle.xp_board.specs.Recorded.{held, held_of, entry_demand, recorded_in, recorded_number, work_of}
use Rattle.xp_board.specs.Valid.{LeadsWell, IsUnsettled, IsLastOfPartial}
use Rattle.xp_board.specs.Runs.{place_of}
use Rattle.xp_board.proofs.StepLists.{Hit, since_false, hit_left}
use Rattle.type_rule.proofs.Works.{WorkKeptIn, kept_work, kept_since, recorded_same}
use Rattle.xp_board.proofs.Works.{work_of-same, work_of-mine}

-- an entry that is recorded after the act was recorded before, and asks the same
pub record OldEntry (n : Machine) (m m2 : Place → ℕ) (b : ℕ → Holdings) (f i : ℕ) : Type 0 where
  pub was : i < held (sizes_of n) m b f
  pub demand : entry_demand m2 f i ≡ entry_demand m f i
  pub kind : (kind_at m2 f).kind ≡ (kind_at m f).kind

-- the vCPU makes one more step, and keeps what it has of frames in work but of those that a test names
pub record OneStep (n : Machine) (s : ℕ) (x : Step) (m m2 : Place → ℕ) (b c : ℕ → Holdings) : Type 0 where
  pub others : (t : ℕ) → t ≢ s → c t ≡ b t
  pub found : ℕ
  pub left : left_by x.act found ≡ m2 (place_of n x)
  pub steps : (c s).steps ≡ record { step = x; found = found } ∷ (b s).steps

module _ (n : Machine) (s : ℕ) (x : Step) (m m2 : Place → ℕ) (b c : ℕ → Holdings) (one : OneStep n s x m m2 b c) where
  abbrev made : Made
  made = record { step = x; found = one.found }

  -- what this step left there stands there
  pub stands : (p : Place) (test : ℕ → Bool) → Hit (sizes_of n) p test made → test (m2 p) ≡ true
  stands p test a = hit_left (sizes_of n) m2 p test made one.left a

  -- ---- an unsettled entry, of a table of which the vCPUs keep what they have
  still_unfound : (f i g : ℕ) → WorkKeptIn (work_on f (b s).works) (work_on f (c s).works) → (u : IsUnsettled (sizes_of n) b f i g) → u.vcpu ≡ s →
      IsTrue (is_live (kind_at m2 g)) ⊎ IsUnsettled (sizes_of n) c f i g
  still_unfound f i g works u at =
      let e = kept_work _ _ u.work works (rw at at u.here) in
      let k = e.2 in
      let v = kept_since _ _ u.unsettled k.unsettled u.kept in
      elim (since_false (sizes_of n) u.unsettled.since (Kind g) is_live_word made (b s).steps (rw at at u.unfound)) [
        | inl found ↦ inl (stands (Kind g) is_live_word found)
        | inr unfound ↦
            inr
            (record {
              vcpu = s;
              real = rw at at u.real;
              work = e.0;
              here = e.1;
              last = u.last ∙ sym k.recorded;
              unsettled = v.0;
              kept = v.1;
              unfound = rw (one.steps, v.2) unfound;
            })
      ]

  pub unsettled_after : (f i g : ℕ) → WorkKeptIn (work_on f (b s).works) (work_on f (c s).works) → IsUnsettled (sizes_of n) b f i g →
      IsTrue (is_live (kind_at m2 g)) ⊎ IsUnsettled (sizes_of n) c f i g
  unsettled_after f i g works u =
      elim (cases_eq u.vcpu s) [
        | inl at ↦ still_unfound f i g works u at
        | inr off ↦
            let same = one.others u.vcpu off in
            inr
            (record {
              vcpu = u.vcpu;
              real = u.real;
              work = u.work;
              here = rw same u.here;
              last = u.last;
              unsettled = u.unsettled;
              kept = u.kept;
              unfound = rw same u.unfound;
            })
      ]

  recorded_at : (f t : ℕ) → WorkKeptIn (work_on f (b s).works) (work_on f (c s).works) → recorded_in (c t).works f ≡ recorded_in (b t).works f
  recorded_at f t k = elim (cases_eq t s) [ inl at ↦ rw at (recorded_same (b s).works (c s).works f k) | inr off ↦ rw (one.others t off) refl ]

  -- ---- no kind word changes
  module _ (kinds : (g : ℕ) → m2 (Kind g) ≡ m (Kind g)) (works : (g : ℕ) → WorkKeptIn (work_on g (b s).works) (work_on g (c s).works)) where
    pub quiet_held : (f : ℕ) → held (sizes_of n) m2 c f ≡ held (sizes_of n) m b f
    quiet_held f = rw (kinds f, work_of-same (sizes_of n).vcpus b c f (λ t l. recorded_at f t (works f))) refl

    pub quiet_entry : (f i : ℕ) → (i < held (sizes_of n) m b f → demand_at (kind_at m f).kind i (m2 (Cell f i)) ≡ entry_demand m f i) →
        i < held (sizes_of n) m2 c f → OldEntry n m m2 b f i
    quiet_entry f i demand l =
        let was : i < held (sizes_of n) m b f = rw (quiet_held f) at l in
        record { was = was; demand = rw (kinds f) (demand was); kind = rw (kinds f) refl }

    pub quiet_leads : (f i g : ℕ) → LeadsWell (sizes_of n) m b f i g → LeadsWell (sizes_of n) m2 c f i g
    quiet_leads f i g (inl live) = inl (rw (kinds g) live)
    quiet_leads f i g (inr (form, inl last)) =
        inr (rw (kinds g) form, inl (record { partial = rw (kinds f) last.partial; last = rw (kinds f) last.last }))
    quiet_leads f i g (inr (form, inr unsettled)) =
        elim (unsettled_after f i g (works f) unsettled) [
          | inl live ↦ inl live
          | inr after ↦ inr (rw (kinds g) form, inr after)
        ]

  -- ---- the kind word of frame q changes
  module _ (q : ℕ) (kinds : (g : ℕ) → g ≢ q → m2 (Kind g) ≡ m (Kind g)) (cells : (f i : ℕ) → m2 (Cell f i) ≡ m (Cell f i))
      (works : (g : ℕ) → g ≢ q → WorkKeptIn (work_on g (b s).works) (work_on g (c s).works)) (real : s < (sizes_of n).vcpus) where
    -- what is to be shown of frame q: no other vCPU works on it, as many entries stay recorded, and its type stays where there are some
    pub record SameTable : Type 0 where
      pub alone : (t : ℕ) → t < (sizes_of n).vcpus → t ≢ s → work_on q (b t).works ≡ None
      pub held : held_of (kind_at m2 q) (recorded_number (work_on q (c s).works)) ≡ held_of (kind_at m q) (recorded_number (work_on q (b s).works))
      pub kind : ((kind_at m2 q).kind ≡ (kind_at m q).kind) ⊎ (held_of (kind_at m q) (recorded_number (work_on q (b s).works)) ≡ 0)

    recorded_is : (h : ℕ → Holdings) → ((t : ℕ) → t < (sizes_of n).vcpus → t ≢ s → work_on q (h t).works ≡ None) →
        work_of (sizes_of n).vcpus h q ≡ recorded_number (work_on q (h s).works)
    unfolding recorded_in
    recorded_is h alone = work_of-mine (sizes_of n).vcpus h s q real (λ t l o. ap recorded_number (alone t l o))

    module _ (same : SameTable) where
      held_b : held (sizes_of n) m b q ≡ held_of (kind_at m q) (recorded_number (work_on q (b s).works))
      held_b = ap (λ o. held_of (kind_at m q) o) (recorded_is b same.alone)

      held_c : held (sizes_of n) m2 c q ≡ held_of (kind_at m2 q) (recorded_number (work_on q (c s).works))
      held_c = ap (λ o. held_of (kind_at m2 q) o) (recorded_is c (λ t l o. rw (one.others t o) (same.alone t l o)))

      pub kind_held : (f : ℕ) → held (sizes_of n) m2 c f ≡ held (sizes_of n) m b f
      kind_held f =
          elim (cases_eq f q) [
            | inl at ↦ rw at (held_c ∙ same.held ∙ sym held_b)
            | inr off ↦ rw (kinds f off, work_of-same (sizes_of n).vcpus b c f (λ t l. recorded_at f t (works f off))) refl
          ]

      same_type : (f i : ℕ) → i < held (sizes_of n) m b f → (kind_at m2 f).kind ≡ (kind_at m f).kind
      same_type f i l =
          elim (cases_eq f q) [
            | inl at ↦ elim same.kind [
              | inl kind ↦ rw at kind
              | inr none ↦ absurd (let k : i < held (sizes_of n) m b q = rw at at l in let e = held_b in omega arith)
            ]
            | inr off ↦ rw (kinds f off) refl
          ]

      pub kind_entry : (f i : ℕ) → i < held (sizes_of n) m2 c f → OldEntry n m m2 b f i
      kind_entry f i l =
          let was : i < held (sizes_of n) m b f = rw (kind_held f) at l in
          let kind = same_type f i was in
          record { was = was; demand = rw (kind, cells f i) refl; kind = kind }

    -- what is to be shown where frame q is named by a recorded entry, and where it is the table
    pub record LeadsStill : Type 0 where
      pub live : (f i : ℕ) (t : PageType) → i < held (sizes_of n) m b f → entry_demand m f i ≡ Typed q t → IsTrue (is_live (kind_at m q)) → IsTrue (is_live (kind_at m2 q))
      pub form : (f i : ℕ) (t : PageType) → i < held (sizes_of n) m b f → entry_demand m f i ≡ Typed q t → IsTrue (is_partial (kind_at m q) || is_work (kind_at m q)) →
          IsTrue (is_live (kind_at m2 q)) ⊎ IsTrue (is_partial (kind_at m2 q) || is_work (kind_at m2 q))
      pub last : (i g : ℕ) → IsLastOfPartial m q i → IsLastOfPartial m2 q i ⊎ IsUnsettled (sizes_of n) c q i g
      pub unsettled : (i g : ℕ) (t : PageType) → i < held (sizes_of n) m b q → entry_demand m q i ≡ Typed g t → IsUnsettled (sizes_of n) b q i g →
          IsTrue (is_live (kind_at m2 g)) ⊎ (IsLastOfPartial m2 q i ⊎ IsUnsettled (sizes_of n) c q i g)

    module _ (still : LeadsStill) where
      live_after : (f i g : ℕ) (t : PageType) → i < held (sizes_of n) m b f → entry_demand m f i ≡ Typed g t → IsTrue (is_live (kind_at m g)) → IsTrue (is_live (kind_at m2 g))
      live_after f i g t l e live =
          elim (cases_eq g q) [
            | inl at ↦ rw at (still.live f i t l (rw at at e) (rw at at live))
            | inr off ↦ rw (kinds g off) live
          ]

      form_after : (f i g : ℕ) (t : PageType) → i < held (sizes_of n) m b f → entry_demand m f i ≡ Typed g t → IsTrue (is_partial (kind_at m g) || is_work (kind_at m g)) →
          IsTrue (is_live (kind_at m2 g)) ⊎ IsTrue (is_partial (kind_at m2 g) || is_work (kind_at m2 g))
      form_after f i g t l e form =
          elim (cases_eq g q) [
            | inl at ↦ rw at (still.form f i t l (rw at at e) (rw at at form))
            | inr off ↦ inr (rw (kinds g off) form)
          ]

      last_after : (f i g : ℕ) → IsLastOfPartial m f i → IsLastOfPartial m2 f i ⊎ IsUnsettled (sizes_of n) c f i g
      last_after f i g last =
          elim (cases_eq f q) [
            | inl at ↦ rw at (still.last i g (rw at at last))
            | inr off ↦ inl (record { partial = rw (kinds f off) last.partial; last = rw (kinds f off) last.last })
          ]

      still_after : (f i g : ℕ) (t : PageType) → i < held (sizes_of n) m b f → entry_demand m f i ≡ Typed g t → IsUnsettled (sizes_of n) b f i g →
          IsTrue (is_live (kind_at m2 g)) ⊎ (IsLastOfPartial m2 f i ⊎ IsUnsettled (sizes_of n) c f i g)
      still_after f i g t l e u =
          elim (cases_eq f q) [
            | inl at ↦ rw at (still.unsettled i g t (rw at at l) (rw at at e) (rw at at u))
            | inr off ↦ elim (unsettled_after f i g (works f off) u) [ inl live ↦ inl live | inr after ↦ inr (inr after) ]
          ]

      pub kind_leads : (f i g : ℕ) (t : PageType) → i < held (sizes_of n) m b f → entry_demand m f i ≡ Typed g t → LeadsWell (sizes_of n) m b f i g → LeadsWell (sizes_of n) m2 c f i g
      kind_leads f i g t l e (inl live) = inl (live_after f i g t l e live)
      kind_leads f i g t l e (inr (form, inl last)) =
          elim (form_after f i g t l e form) [ inl live ↦ inl live | inr stays ↦ inr (stays, last_after f i g last) ]
      kind_leads f i g t l e (inr (form, inr u)) =
          elim (form_after f i g t l e form) [
            | inl live ↦ inl live
            | inr stays ↦ elim (still_after f i g t l e u) [ inl live ↦ inl live | inr rest ↦ inr (stays, rest) ]
          ]
