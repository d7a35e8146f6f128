-- Acts that change no kind word, no cell and no word of a vCPU that names a frame.
use Rattle.std.proofs.Common.{◌≡◌, ◌≢◌, ℕ, ◌<◌, IsTrue, refl, sym, ◌∙◌, inl, inr}
use Rattle.std.proofs.lemmas.Bool.{cases_eq}
use Rattle.xp_words.specs.Machine.{Machine}
use Rattle.xp_words.specs.declared.place.Place.{Place}
use Rattle.xp_words.specs.declared.place.Place.TheVariants.{Vcpu, Refs, Kind, Cell, Priv}
use Rattle.xp_words.specs.Places.{sizes_of}
use Rattle.xp_board.specs.declared.step.Step.{Step}
use Rattle.xp_board.specs.declared.holdings.Holdings.{Holdings}
use Rattle.xp_board.specs.Hands.{work_on}
use Rattle.xp_board.specs.Readings.{is_context, ref_count, owner_of}
use Rattle.xp_board.specs.Sound.{Sound}
use Rattle.xp_board.specs.Valid.{Valid, Permitted}
use Rattle.type_rule.proofs.Works.{WorkKeptIn}
use Rattle.type_rule.proofs.EntryChange.{OneStep, quiet_entry, quiet_leads}
use Rattle.type_rule.proofs.ValidLaw.{OwnersStay, valid_law, permitted_law, contexts_permitted, live_is_context}

pub record QuietAct (n : Machine) (s : ℕ) (x : Step) (m m2 : Place → ℕ) (b c : ℕ → Holdings) : Type 0 where
  pub one : OneStep n s x m m2 b c
  pub kinds : (g : ℕ) → m2 (Kind g) ≡ m (Kind g)
  pub cells : (f i : ℕ) → m2 (Cell f i) ≡ m (Cell f i)
  pub contexts : (v k : ℕ) → IsTrue (is_context k) → m2 (Vcpu v k) ≡ m (Vcpu v k)
  pub works : (g : ℕ) → WorkKeptIn (work_on g (b s).works) (work_on g (c s).works)
  pub owners : OwnersStay m m2

module _ (n : Machine) (s : ℕ) (x : Step) (m m2 : Place → ℕ) (b c : ℕ → Holdings) (real : s < (sizes_of n).vcpus) (sound : Sound n m b) where
  pub quiet_valid : QuietAct n s x m m2 b c → Valid (sizes_of n) m2 c
  quiet_valid k =
      valid_law n m m2 b c
      (record {
        entries = λ f i l. inl (quiet_entry n s x m m2 b c k.one k.kinds k.works f i (λ was. rw (k.cells f i) refl) l);
        leads = λ f i g t now l e leads. quiet_leads n s x m m2 b c k.one k.kinds k.works f i g leads;
        fixed = λ f i live kind l. rw (k.cells f i) (sound.valid.fixed f i (rw (k.kinds f) at live) (rw (k.kinds f) at kind) l);
        contexts = λ v j g l h u e. rw (k.kinds g) (sound.valid.contexts v j g l h u (sym (k.contexts v j (live_is_context j u)) ∙ e));
      })
      sound.valid

  pub quiet_permitted : QuietAct n s x m m2 b c → Permitted n m2 c
  quiet_permitted k =
      permitted_law n s m m2 b c real sound
      (record {
        entries = λ f i l. inl (quiet_entry n s x m m2 b c k.one k.kinds k.works f i (λ was. rw (k.cells f i) refl) l);
        owners = k.owners;
        contexts = contexts_permitted n s m m2 b real sound k.owners k.contexts;
      })

-- ---- owners
pub same_owners : (m m2 : Place → ℕ) → ((f : ℕ) → m2 (Refs f) ≡ m (Refs f)) → ((d : ℕ) → m2 (Priv d) ≡ m (Priv d)) → OwnersStay m m2
same_owners m m2 refs privs = record { owner = λ g some. rw (refs g) refl; ever = λ d o t. rw (privs d) t }

-- the reference word of one frame changes
pub one_owner : (m m2 : Place → ℕ) (f : ℕ) → ((q : Place) → q ≢ Refs f → m2 q ≡ m q) → (0 < ref_count (m (Refs f)) → owner_of (m2 (Refs f)) ≡ owner_of (m (Refs f))) → OwnersStay m m2
one_owner m m2 f same here =
    record {
      owner = λ g some. elim (cases_eq g f) [ inl at ↦ rw at (here (rw at at some)) | inr off ↦ rw (same (Refs g) (λ q. off (cc))) refl ];
      ever = λ d o t. rw (same (Priv d) (λ q. cc)) t;
    }
