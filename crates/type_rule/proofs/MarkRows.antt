-- Marks: what entries lead to and whom they are permitted, when an entry is recorded or comes back, and else.
use Rattle.std.proofs.Common.{◌≡◌, ◌≢◌, ℕ, ◌+◌, ◌<◌, ◌⊎◌, IsTrue, refl, ◌∙◌, ap, inl, inr}
use Rattle.std.proofs.lemmas.Bool.{cases_eq}
use Rattle.xp_words.specs.declared.kind.PageType.{PageType}
use Rattle.xp_words.specs.declared.entry.Demand.TheVariants.{Typed}
use Rattle.xp_words.specs.Machine.{Machine}
use Rattle.xp_words.specs.declared.place.Place.{Place}
use Rattle.xp_words.specs.declared.place.Place.TheVariants.{Vcpu}
use Rattle.xp_words.specs.Places.{sizes_of}
use Rattle.xp_board.specs.declared.holdings.Holdings.{Holdings}
use Rattle.xp_board.specs.Hands.{work_on}
use Rattle.xp_board.specs.Readings.{kind_at, is_live}
use Rattle.xp_board.specs.Recorded.{held, held_of, entry_demand, recorded_in, recorded_number}
use Rattle.xp_board.specs.Valid.{Valid, Permitted, LeadsWell, IsUnsettled, is_live_context}
use Rattle.xp_board.specs.Sound.{Sound}
use Rattle.xp_board.proofs.Works.{work_of-same}
use Rattle.type_rule.proofs.ValidLaw.{OwnersStay, NewEntry, EntriesAfter, valid_law, permitted_law}

-- ---- marks that change no work
module _ (n : Machine) (s : ℕ) (m : Place → ℕ) (h b : ℕ → Holdings) (real : s < (sizes_of n).vcpus) (sound : Sound n m h)
    (others : (t : ℕ) → t ≢ s → b t ≡ h t) (steps : (b s).steps ≡ (h s).steps) where
  stays : OwnersStay m m
  stays = record { owner = λ g some. refl; ever = λ d o t. t }

  contexts_valid : (v k g : ℕ) → v < (sizes_of n).vcpus → k < 38 → IsTrue (is_live_context k) → m (Vcpu v k) ≡ g + 1 → IsTrue (is_live (kind_at m g))
  contexts_valid v k g l e u at = sound.valid.contexts v k g l e u at

  -- an unsettled entry of a table of which the vCPUs have the same
  unsettled_same : (f i g : ℕ) → work_on f (b s).works ≡ work_on f (h s).works → IsUnsettled (sizes_of n) h f i g → IsUnsettled (sizes_of n) b f i g
  unsettled_same f i g same u =
      record {
        vcpu = u.vcpu;
        real = u.real;
        work = u.work;
        here = elim (cases_eq u.vcpu s) [ inl at ↦ rw at (same ∙ rw at at u.here) | inr off ↦ rw (others u.vcpu off) u.here ];
        last = u.last;
        unsettled = u.unsettled;
        kept = u.kept;
        unfound = elim (cases_eq u.vcpu s) [ inl at ↦ rw at (rw steps (rw at at u.unfound)) | inr off ↦ rw (others u.vcpu off) u.unfound ];
      }

  leads_same : (f i g : ℕ) → work_on f (b s).works ≡ work_on f (h s).works → LeadsWell (sizes_of n) m h f i g → LeadsWell (sizes_of n) m b f i g
  leads_same f i g same (inl live) = inl live
  leads_same f i g same (inr (form, inl last)) = inr (form, inl last)
  leads_same f i g same (inr (form, inr u)) = inr (form, inr (unsettled_same f i g same u))

  recorded_same : (f t : ℕ) → work_on f (b s).works ≡ work_on f (h s).works → recorded_in (b t).works f ≡ recorded_in (h t).works f
  unfolding recorded_in
  recorded_same f t same = elim (cases_eq t s) [ inl at ↦ rw at (ap recorded_number same) | inr off ↦ rw (others t off) refl ]

  held_same : (f : ℕ) → work_on f (b s).works ≡ work_on f (h s).works → held (sizes_of n) m b f ≡ held (sizes_of n) m h f
  held_same f same = ap (λ o. held_of (kind_at m f) o) (work_of-same (sizes_of n).vcpus h b f (λ t l. recorded_same f t same))

  -- what is to be shown of a mark on frame q
  pub record MarkOn (q : ℕ) : Type 0 where
    pub same : (g : ℕ) → g ≢ q → work_on g (b s).works ≡ work_on g (h s).works
    pub entry : (i : ℕ) → i < held (sizes_of n) m b q → (i < held (sizes_of n) m h q) ⊎ NewEntry n m b q i
    pub leads : (i g : ℕ) (t : PageType) → i < held (sizes_of n) m b q → i < held (sizes_of n) m h q → entry_demand m q i ≡ Typed g t → LeadsWell (sizes_of n) m h q i g → LeadsWell (sizes_of n) m b q i g

  module _ (q : ℕ) (k : MarkOn q) where
    entries : EntriesAfter n m m h b
    entries f i l =
        elim (cases_eq f q) [
          | inl at ↦ elim (k.entry i (rw at at l)) [
            | inl was ↦ inl (record { was = rw at was; demand = refl; kind = refl })
            | inr new ↦ inr (rw at new)
          ]
          | inr off ↦ inl (record { was = rw (held_same f (k.same f off)) at l; demand = refl; kind = refl })
        ]

    pub mark_valid : Valid (sizes_of n) m b
    mark_valid =
        valid_law n m m h b
        (record {
          entries = entries;
          leads = λ f i g t now l e leads. elim (cases_eq f q) [
            | inl at ↦ rw at (k.leads i g t (rw at at now) (rw at at l) (rw at at e) (rw at at leads))
            | inr off ↦ leads_same f i g (k.same f off) leads
          ];
          fixed = sound.valid.fixed;
          contexts = contexts_valid;
        })
        sound.valid

    pub mark_permitted : Permitted n m b
    mark_permitted = permitted_law n s m m h b real sound (record { entries = entries; owners = stays; contexts = sound.permitted.contexts })

  -- no work changes
  pub quiet_mark : (b s).works ≡ (h s).works → (q : ℕ) → MarkOn q
  quiet_mark works q =
      record {
        same = λ g off. ap (work_on g) works;
        entry = λ i l. inl (rw (held_same q (ap (work_on q) works)) at l);
        leads = λ i g t now l e leads. leads_same q i g (ap (work_on q) works) leads;
      }
