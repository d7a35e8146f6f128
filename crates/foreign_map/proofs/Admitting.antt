-- The looks at one domain, as lists.
use Rattle.std.proofs.Common.{◌≡◌, ◌≢◌, ℕ, ◌<◌, ◌≤◌, ◌==◌, not, if◌then◌else◌, Bool, true, false, [], ◌∷◌, length, None, Result, Ok, Err, refl, sym, ap, ◌∙◌, subst}
use Rattle.xp_words.specs.declared.place.Place.TheVariants.{Life, Priv}
use Rattle.xp_words.specs.declared.reply.Refusal.TheVariants.{Dying, NoDomain, NoPrivilege}
use Rattle.xp_words.specs.declared.reply.Refusal.{Refusal}
use Rattle.xp_board.specs.declared.step.Act.TheVariants.{Load}
use Rattle.xp_board.specs.declared.step.StepKind.TheVariants as kinds
use Rattle.xp_board.specs.declared.holdings.Holdings.{Holdings}
use Rattle.xp_board.specs.declared.holdings.Looking.{Looking}
use Rattle.xp_board.specs.After.{learned_life}
use Rattle.xp_board.specs.Lists.{kept_of}
use Rattle.xp_board.specs.Readings.{has_now}
use Rattle.xp_board.specs.Told.{PortValue}
use Rattle.step_maker.specs.Holds.{Holds, Same}
use Rattle.step_maker.specs.Moves.{Moves}
use Rattle.step_maker.specs.Visits.{Does, Nothing, Only, Then}
use Rattle.step_maker.proofs.Visiting.{does_as, does_nothing, does_one, does_then}
use Rattle.foreign_map.specs.Owning.{Admits, AdmitsBy, AdmitsFound, AllowsBy, AllowsFound, OverOf, saw_life, saw_privileges}
use Rattle.foreign_map.specs.Owning as by

-- ---- the caller and a domain
module _ (v : PortValue) (caller d : ℕ) where
  pub found_own : d ≡ caller → AdmitsFound v v caller d (Ok caller)
  found_own is =
      does_as v v Nothing (λ vs. AdmitsBy v.post.machine caller d (Ok caller) vs) (λ vs none. (sym is, subst (λ us. Admits v.post.machine caller d None us) (sym none) (by.own is))) (does_nothing v)

  pub found_missing : d ≢ caller → length v.post.machine.page_limit ≤ d → AdmitsFound v v caller d (Err NoDomain)
  found_missing off high =
      does_as v v Nothing (λ vs. AdmitsBy v.post.machine caller d (Err NoDomain) vs) (λ vs none. subst (λ us. AdmitsBy v.post.machine caller d (Err NoDomain) us) (sym none) (by.missing off high)) (does_nothing v)

  module _ (u : PortValue) (x : ℕ) (off : d ≢ caller) (real : d < length v.post.machine.page_limit) (look : Moves v u (Priv caller) Load kinds.Look None x) where
    pub found_barred : has_now d x ≡ false → AdmitsFound v u caller d (Err (NoPrivilege caller d))
    found_barred without =
        let answer : Result ℕ Refusal = Err (NoPrivilege caller d) in
        does_as v u (Only (saw_privileges caller x)) (λ vs. AdmitsBy v.post.machine caller d answer vs)
        (λ vs one. subst (λ us. AdmitsBy v.post.machine caller d answer us) (sym one) (by.barred x off real without)) (does_one v u _ _ _ _ x look)

    two_looks : (w : PortValue) (y : ℕ) → Moves u w (Life d) Load kinds.Look None y → Does v w (λ vs. vs ≡ saw_life d y ∷ (saw_privileges caller x ∷ []))
    two_looks w y life =
        does_as v w (Then (Only (saw_privileges caller x)) (Only (saw_life d y))) (λ vs. vs ≡ saw_life d y ∷ (saw_privileges caller x ∷ [])) (λ vs both. rw (both.list, both.next, both.first) refl)
        (does_then v u w (Only (saw_privileges caller x)) (Only (saw_life d y)) (does_one v u _ _ _ _ x look) (does_one u w _ _ _ _ y life))

    pub found_dying : (w : PortValue) (y : ℕ) → has_now d x ≡ true → y ≢ 0 → Moves u w (Life d) Load kinds.Look None y → AdmitsFound v w caller d (Err (Dying d y))
    found_dying w y may ends life =
        let answer : Result ℕ Refusal = Err (Dying d y) in
        does_as v w _ (λ vs. AdmitsBy v.post.machine caller d answer vs) (λ vs two. subst (λ us. AdmitsBy v.post.machine caller d answer us) (sym two) (by.dying x y off real may ends)) (two_looks w y life)

    pub found_alive : (w : PortValue) (y : ℕ) → has_now d x ≡ true → y ≡ 0 → Moves u w (Life d) Load kinds.Look None y → AdmitsFound v w caller d (Ok d)
    found_alive w y may lives life =
        does_as v w (λ vs. vs ≡ saw_life d 0 ∷ (saw_privileges caller x ∷ [])) (λ vs. AdmitsBy v.post.machine caller d (Ok d) vs)
        (λ vs two. (refl, subst (λ us. Admits v.post.machine caller d None us) (sym two) (by.alive x off real may)))
        (subst (λ z. Does v w (λ vs. vs ≡ saw_life d z ∷ (saw_privileges caller x ∷ []))) lives (two_looks w y life))

-- ---- the tables' owner and the frames' owner
module _ (v : PortValue) (caller tables frames : ℕ) where
  allows_none : OverOf caller tables frames None [] → AllowsFound v v caller tables frames (Ok tt)
  allows_none over = does_as v v Nothing (λ vs. OverOf caller tables frames None vs) (λ vs none. subst (λ us. OverOf caller tables frames None us) (sym none) over) (does_nothing v)

  pub allows_caller : tables ≡ caller → AllowsFound v v caller tables frames (Ok tt)
  allows_caller is = allows_none (by.of_caller is)

  pub allows_same : tables ≡ frames → AllowsFound v v caller tables frames (Ok tt)
  allows_same is = allows_none (by.same is)

  module _ (w : PortValue) (x : ℕ) (other : tables ≢ caller) (apart : tables ≢ frames) (look : Moves v w (Priv tables) Load kinds.Look None x) where
    pub allows_had : has_now frames x ≡ true → AllowsFound v w caller tables frames (Ok tt)
    allows_had may =
        does_as v w (Only (saw_privileges tables x)) (λ vs. OverOf caller tables frames None vs) (λ vs one. subst (λ us. OverOf caller tables frames None us) (sym one) (by.allowed x other apart may)) (does_one v w _ _ _ _ x look)

    pub allows_not : has_now frames x ≡ false → AllowsFound v w caller tables frames (Err (NoPrivilege tables frames))
    allows_not without =
        let answer : Result (Unit {0}) Refusal = Err (NoPrivilege tables frames) in
        does_as v w (Only (saw_privileges tables x)) (λ vs. AllowsBy caller tables frames answer vs) (λ vs one. subst (λ us. AllowsBy caller tables frames answer us) (sym one) (by.forbidden x other apart without))
        (does_one v w _ _ _ _ x look)

-- ---- the hand
-- nothing is learned where no life is to be looked at
pub nothing_learned : (d x : ℕ) (h : Holdings) → h.looking ≡ [] → learned_life d x h ≡ h
unfolding kept_of
nothing_learned d x h none = either_way (x == 0)
  where
    same_kept : kept_of (λ (e : Looking). not (e.owner == d)) h.looking ≡ h.looking
    same_kept = rw none refl

    either_way : (b : Bool) → (if b then record h { looking = kept_of (λ (e : Looking). not (e.owner == d)) h.looking } else h) ≡ h
    either_way true = ap (λ ls. record h { looking = ls }) same_kept
    either_way false = refl

pub looked_same : (v u w : PortValue) (d x : ℕ) → v.holdings.looking ≡ [] → Same v u → Holds u w (learned_life d x u.holdings) → Same v w
looked_same v u w d x none same life =
    life ∙ ap (λ (h : Holdings). record { post = u.post; holdings = record h { steps = [] }; told = None }) (nothing_learned d x u.holdings (ap (λ (y : PortValue). y.holdings.looking) same ∙ none)) ∙ same
