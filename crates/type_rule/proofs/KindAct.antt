-- An act on a kind word: what has to be shown of its frame, and what follows.
use Rattle.std.proofs.Common.{◌≡◌, ◌≢◌, ℕ, ◌+◌, ◌<◌, ◌||◌, false, None, IsTrue, refl, sym, ◌∙◌, ap, inl, inr}
use Rattle.std.proofs.lemmas.Bool.{cases_eq}
use Rattle.xp_words.specs.declared.kind.KindWord.{KindWord}
use Rattle.xp_words.specs.declared.kind.PageType.TheVariants as kinds
use Rattle.xp_words.specs.Machine.{Machine}
use Rattle.xp_words.specs.declared.place.Place.{Place}
use Rattle.xp_words.specs.declared.place.Place.TheVariants.{Vcpu, Refs, Kind, Cell, Priv}
use Rattle.xp_words.specs.Places.{sizes_of}
use Rattle.xp_board.specs.declared.step.Step.{Step}
use Rattle.xp_board.specs.declared.holdings.Holdings.{Holdings}
use Rattle.xp_board.specs.Hands.{work_on}
use Rattle.xp_board.specs.Readings.{kind_at, is_live, is_work, is_partial}
use Rattle.xp_board.specs.After.{is_fixed}
use Rattle.xp_board.specs.Recorded.{held_of, recorded_number}
use Rattle.xp_board.specs.Valid.{Valid, Permitted, IsUnsettled, is_live_context}
use Rattle.xp_board.specs.Sound.{Sound, is_busy}
use Rattle.type_rule.proofs.Works.{WorkKeptIn}
use Rattle.xp_board.proofs.Works.{nobody_has}
use Rattle.type_rule.proofs.EntryChange.{OneStep, SameTable, LeadsStill, kind_entry, kind_leads}
use Rattle.type_rule.proofs.ValidLaw.{valid_law, permitted_law, contexts_permitted}
use Rattle.type_rule.proofs.QuietLaw.{same_owners}
use Rattle.xp_board.proofs.HeldByForm.{live_partial}

not_both : (k : KindWord) → IsTrue (is_live k) → IsTrue (is_partial k || is_work k) → ⊥
not_both k live form = let t : (is_partial k || is_work k) ≡ false = rw live refl in cc

module _ (n : Machine) (s : ℕ) (x : Step) (m m2 : Place → ℕ) (b c : ℕ → Holdings) (real : s < (sizes_of n).vcpus) (sound : Sound n m b)
    (one : OneStep n s x m m2 b c) (q : ℕ) (same : (p : Place) → p ≢ Kind q → m2 p ≡ m p)
    (works : (g : ℕ) → g ≢ q → WorkKeptIn (work_on g (b s).works) (work_on g (c s).works)) where
  pub kinds_same : (g : ℕ) → g ≢ q → m2 (Kind g) ≡ m (Kind g)
  kinds_same g off = same (Kind g) (λ e. off (cc))

  pub cells_same : (f i : ℕ) → m2 (Cell f i) ≡ m (Cell f i)
  cells_same f i = same (Cell f i) (λ e. cc)

  abbrev pub Table : Type 0
  Table = SameTable n s x m m2 b c one q kinds_same cells_same works real

  abbrev pub Leads : Type 0
  Leads = LeadsStill n s x m m2 b c one q kinds_same cells_same works real

  pub record KindAct : Type 0 where
    pub table : Table
    pub leads : Leads
    pub fixed : (i : ℕ) → IsTrue (is_live (kind_at m2 q)) → (kind_at m2 q).kind ≡ kinds.Desc → i < 512 → IsTrue (is_fixed (m (Cell q i)))
    pub named : (v k : ℕ) → v < (sizes_of n).vcpus → k < 38 → IsTrue (is_live_context k) → m (Vcpu v k) ≡ q + 1 → IsTrue (is_live (kind_at m2 q))

  kind_fixed : KindAct → (f i : ℕ) → IsTrue (is_live (kind_at m2 f)) → (kind_at m2 f).kind ≡ kinds.Desc → i < 512 → IsTrue (is_fixed (m2 (Cell f i)))
  kind_fixed k f i live kind l =
      rw (cells_same f i)
      (elim (cases_eq f q) [
        | inl at ↦ rw at (k.fixed i (rw at at live) (rw at at kind) l)
        | inr off ↦ sound.valid.fixed f i (rw (kinds_same f off) at live) (rw (kinds_same f off) at kind) l
      ])

  kind_named : KindAct → (v k g : ℕ) → v < (sizes_of n).vcpus → k < 38 → IsTrue (is_live_context k) → m2 (Vcpu v k) ≡ g + 1 → IsTrue (is_live (kind_at m2 g))
  kind_named a v k g l h u e =
      let was : m (Vcpu v k) ≡ g + 1 = sym (same (Vcpu v k) (λ r. cc)) ∙ e in
      elim (cases_eq g q) [
        | inl at ↦ rw at (a.named v k l h u (rw at at was))
        | inr off ↦ rw (kinds_same g off) (sound.valid.contexts v k g l h u was)
      ]

  pub kind_valid : KindAct → Valid (sizes_of n) m2 c
  kind_valid k =
      valid_law n m m2 b c
      (record {
        entries = λ f i l. inl (kind_entry n s x m m2 b c one q kinds_same cells_same works real k.table f i l);
        leads = λ f i g t now l e leads. kind_leads n s x m m2 b c one q kinds_same cells_same works real k.leads f i g t l e leads;
        fixed = kind_fixed k;
        contexts = kind_named k;
      })
      sound.valid

  pub kind_permitted : KindAct → Permitted n m2 c
  kind_permitted k =
      let owners = same_owners m m2 (λ f. same (Refs f) (λ e. cc)) (λ d. same (Priv d) (λ e. cc)) in
      permitted_law n s m m2 b c real sound
      (record {
        entries = λ f i l. inl (kind_entry n s x m m2 b c one q kinds_same cells_same works real k.table f i l);
        owners = owners;
        contexts = contexts_permitted n s m m2 b real sound owners (λ v j u. same (Vcpu v j) (λ e. cc));
      })

  -- ---- a frame that no vCPU has in its works
  module _ (idle : is_busy (kind_at m q) ≡ false) where
    pub nobody : (t : ℕ) → t < (sizes_of n).vcpus → work_on q (b t).works ≡ None
    nobody = nobody_has n m b sound.alone q idle

    pub not_unsettled : (i g : ℕ) → IsUnsettled (sizes_of n) b q i g → ⊥
    not_unsettled i g u = let none = nobody u.vcpu u.real in let some = u.here in cc

    -- a live frame that stays live with its type
    pub live_stays : IsTrue (is_live (kind_at m q)) → IsTrue (is_live (kind_at m2 q)) → (kind_at m2 q).kind ≡ (kind_at m q).kind →
        held_of (kind_at m2 q) (recorded_number (work_on q (c s).works)) ≡ held_of (kind_at m q) None → KindAct
    live_stays was is kind holds =
        record {
          table = record {
            alone = λ t l off. nobody t l;
            held = holds ∙ ap (λ o. held_of (kind_at m q) (recorded_number o)) (sym (nobody s real));
            kind = inl kind;
          };
          leads = record {
            live = λ f i t l e live. is;
            form = λ f i t l e form. absurd (not_both (kind_at m q) was form);
            last = λ i g last. absurd (let p = last.partial in live_partial (kind_at m q) was p);
            unsettled = λ i g t l e u. absurd (not_unsettled i g u);
          };
          fixed = λ i live desc l. sound.valid.fixed q i was (sym kind ∙ desc) l;
          named = λ v k l h u e. is;
        }
