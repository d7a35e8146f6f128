-- `owner_for` is determined by the words that it finds.
use Rattle.std.proofs.Common.{◌≡◌, ◌≢◌, ℕ, true, false, List, [], ◌∷◌, ◌++◌, Option, Some, None, Result, Err, refl, sym, ap, ◌∙◌, inl, inr, arith}
use Rattle.xp_words.specs.Machine.{Machine}
use Rattle.xp_words.specs.declared.place.Place.TheVariants.{Life, Priv}
use Rattle.xp_words.specs.declared.reply.Refusal.{Refusal}
use Rattle.xp_words.specs.declared.reply.Refusal.TheVariants.{Dying, NoPrivilege}
use Rattle.xp_board.specs.declared.step.Act.TheVariants.{Load}
use Rattle.xp_board.specs.Readings.{has_now}
use Rattle.step_maker.specs.Visits.{Visit}
use Rattle.foreign_map.specs.declared.owners.Owners.{Owners}
use Rattle.foreign_map.specs.Owning.{Admits, OverOf, OwnersBy, above, alive, allowed, apart, barred, dying, forbidden, had, missing, no_frames, no_tables, of_caller, own, same, saw_life, saw_privileges}
use Rattle.determined_laws.specs.Forks.{Tie}
use Rattle.determined_laws.proofs.Ties.{tie_map, forks_newer, fork_here, tie_one, tie_then, some_refusal as some_same}

differ : (d x y : ℕ) → has_now d x ≡ false → has_now d y ≡ true → x ≢ y
differ d x y a b e = let t : false ≡ true = sym a ∙ (ap (has_now d) e ∙ b) in cc

differ_too : (d x y : ℕ) → has_now d x ≡ true → has_now d y ≡ false → x ≢ y
differ_too d x y a b e = let t : true ≡ false = sym a ∙ (ap (has_now d) e ∙ b) in cc

pub admits_tie : (n : Machine) (caller d : ℕ) (a b : Option Refusal) (us vs : List Visit) → Admits n caller d a us → Admits n caller d b vs → Tie us vs (a ≡ b)
admits_tie n c d _ _ _ _ (own e) (own f) = inr (refl, refl)
admits_tie n c d _ _ _ _ (own e) (missing off far) = absurd (off e)
admits_tie n c d _ _ _ _ (own e) (barred x off near nay) = absurd (off e)
admits_tie n c d _ _ _ _ (own e) (dying x y off near aye dead) = absurd (off e)
admits_tie n c d _ _ _ _ (own e) (alive x off near aye) = absurd (off e)
admits_tie n c d _ _ _ _ (missing off far) (own f) = absurd (off f)
admits_tie n c d _ _ _ _ (missing off far) (missing off' far') = inr (refl, refl)
admits_tie n c d _ _ _ _ (missing off far) (barred x off' near nay) = absurd (omega (arith, far, near))
admits_tie n c d _ _ _ _ (missing off far) (dying x y off' near aye dead) = absurd (omega (arith, far, near))
admits_tie n c d _ _ _ _ (missing off far) (alive x off' near aye) = absurd (omega (arith, far, near))
admits_tie n c d _ _ _ _ (barred x off near nay) (own f) = absurd (off f)
admits_tie n c d _ _ _ _ (barred x off near nay) (missing off' far) = absurd (omega (arith, far, near))
admits_tie n c d _ _ _ _ (barred x off near nay) (barred y off' near' nay') = by (tie_one _ (Priv c) Load None x y)
  where
    by : Tie (saw_privileges c x ∷ []) (saw_privileges c y ∷ []) (x ≡ y) → Tie (saw_privileges c x ∷ []) (saw_privileges c y ∷ []) (Some (NoPrivilege c d) ≡ Some (NoPrivilege c d))
    by (inl f) = inl f
    by (inr s) = inr (s.0, refl)
admits_tie n c d _ _ _ _ (barred x off near nay) (dying y z off' near' aye dead) = inl (fork_here _ (Priv c) Load None x y [] (saw_life d z ∷ []) (differ d x y nay aye))
admits_tie n c d _ _ _ _ (barred x off near nay) (alive y off' near' aye) = inl (fork_here _ (Priv c) Load None x y [] (saw_life d 0 ∷ []) (differ d x y nay aye))
admits_tie n c d _ _ _ _ (dying x y off near aye dead) (own f) = absurd (off f)
admits_tie n c d _ _ _ _ (dying x y off near aye dead) (missing off' far) = absurd (omega (arith, far, near))
admits_tie n c d _ _ _ _ (dying x y off near aye dead) (barred z off' near' nay) = inl (fork_here _ (Priv c) Load None x z (saw_life d y ∷ []) [] (differ_too d x z aye nay))
admits_tie n c d _ _ _ _ (dying x y off near aye dead) (dying x' y' off' near' aye' dead') =
    tie_then (saw_privileges c x ∷ []) (saw_privileges c x' ∷ []) (saw_life d y ∷ []) (saw_life d y' ∷ []) _ _ (tie_one _ (Priv c) Load None x x') (λ s e. by (tie_one _ (Life d) Load None y y'))
  where
    by : Tie (saw_life d y ∷ []) (saw_life d y' ∷ []) (y ≡ y') → Tie (saw_life d y ∷ []) (saw_life d y' ∷ []) (Some (Dying d y) ≡ Some (Dying d y'))
    by (inl f) = inl f
    by (inr s) = inr (s.0, ap (λ z. Some (Dying d z)) s.1)
admits_tie n c d _ _ _ _ (dying x y off near aye dead) (alive x' off' near' aye') =
    tie_then (saw_privileges c x ∷ []) (saw_privileges c x' ∷ []) (saw_life d y ∷ []) (saw_life d 0 ∷ []) _ _ (tie_one _ (Priv c) Load None x x') (λ s e. inl (fork_here _ (Life d) Load None y 0 [] [] dead))
admits_tie n c d _ _ _ _ (alive x off near aye) (own f) = absurd (off f)
admits_tie n c d _ _ _ _ (alive x off near aye) (missing off' far) = absurd (omega (arith, far, near))
admits_tie n c d _ _ _ _ (alive x off near aye) (barred z off' near' nay) = inl (fork_here _ (Priv c) Load None x z (saw_life d 0 ∷ []) [] (differ_too d x z aye nay))
admits_tie n c d _ _ _ _ (alive x off near aye) (dying x' y' off' near' aye' dead') =
    tie_then (saw_privileges c x ∷ []) (saw_privileges c x' ∷ []) (saw_life d 0 ∷ []) (saw_life d y' ∷ []) _ _ (tie_one _ (Priv c) Load None x x') (λ s e. inl (fork_here _ (Life d) Load None 0 y' [] [] (λ q. dead' (sym q))))
admits_tie n c d _ _ _ _ (alive x off near aye) (alive x' off' near' aye') =
    tie_then (saw_privileges c x ∷ []) (saw_privileges c x' ∷ []) (saw_life d 0 ∷ []) (saw_life d 0 ∷ []) _ _ (tie_one _ (Priv c) Load None x x') (λ s e. inr (refl, refl))

pub over_tie : (caller tables frames : ℕ) (a b : Option Refusal) (us vs : List Visit) → OverOf caller tables frames a us → OverOf caller tables frames b vs → Tie us vs (a ≡ b)
over_tie c t f _ _ _ _ (same e) (same g) = inr (refl, refl)
over_tie c t f _ _ _ _ (same e) (of_caller g) = inr (refl, refl)
over_tie c t f _ _ _ _ (same e) (forbidden x off two nay) = absurd (two e)
over_tie c t f _ _ _ _ (same e) (allowed x off two aye) = absurd (two e)
over_tie c t f _ _ _ _ (of_caller e) (same g) = inr (refl, refl)
over_tie c t f _ _ _ _ (of_caller e) (of_caller g) = inr (refl, refl)
over_tie c t f _ _ _ _ (of_caller e) (forbidden x off two nay) = absurd (off e)
over_tie c t f _ _ _ _ (of_caller e) (allowed x off two aye) = absurd (off e)
over_tie c t f _ _ _ _ (forbidden x off two nay) (same g) = absurd (two g)
over_tie c t f _ _ _ _ (forbidden x off two nay) (of_caller g) = absurd (off g)
over_tie c t f _ _ _ _ (forbidden x off two nay) (forbidden y off' two' nay') = by (tie_one _ (Priv t) Load None x y)
  where
    by : Tie (saw_privileges t x ∷ []) (saw_privileges t y ∷ []) (x ≡ y) → Tie (saw_privileges t x ∷ []) (saw_privileges t y ∷ []) (Some (NoPrivilege t f) ≡ Some (NoPrivilege t f))
    by (inl q) = inl q
    by (inr s) = inr (s.0, refl)
over_tie c t f _ _ _ _ (forbidden x off two nay) (allowed y off' two' aye) = inl (fork_here _ (Priv t) Load None x y [] [] (differ f x y nay aye))
over_tie c t f _ _ _ _ (allowed x off two aye) (same g) = absurd (two g)
over_tie c t f _ _ _ _ (allowed x off two aye) (of_caller g) = absurd (off g)
over_tie c t f _ _ _ _ (allowed x off two aye) (forbidden y off' two' nay) = inl (fork_here _ (Priv t) Load None x y [] [] (differ_too f x y aye nay))
over_tie c t f _ _ _ _ (allowed x off two aye) (allowed y off' two' aye') = by (tie_one _ (Priv t) Load None x y)
  where
    by : Tie (saw_privileges t x ∷ []) (saw_privileges t y ∷ []) (x ≡ y) → Tie (saw_privileges t x ∷ []) (saw_privileges t y ∷ []) (◌≡◌ {A = Option Refusal} None None)
    by (inl q) = inl q
    by (inr s) = inr (s.0, refl)

no_some : {A : Type 0} (x : Refusal) → ◌≡◌ {A = Option Refusal} (Some x) None → A
no_some x e = absurd cc

-- the one part ends it, and the other goes on behind
short : (us vs qs : List Visit) (x : Refusal) (F : Type 0) → Tie us vs (◌≡◌ {A = Option Refusal} (Some x) None) → Tie us (qs ++ vs) F
short us vs qs x F (inl f) = inl (forks_newer us vs [] qs f)
short us vs qs x F (inr s) = no_some x s.1

long : (us vs ps : List Visit) (x : Refusal) (F : Type 0) → Tie us vs (◌≡◌ {A = Option Refusal} None (Some x)) → Tie (ps ++ us) vs F
long us vs ps x F (inl f) = inl (forks_newer us vs ps [] f)
long us vs ps x F (inr s) = no_some x (sym s.1)

short_two : (us vs qs rs : List Visit) (x : Refusal) (F : Type 0) → Tie us vs (◌≡◌ {A = Option Refusal} (Some x) None) → Tie us (rs ++ (qs ++ vs)) F
short_two us vs qs rs x F (inl f) = inl (forks_newer us (qs ++ vs) [] rs (forks_newer us vs [] qs f))
short_two us vs qs rs x F (inr s) = no_some x s.1

long_two : (us vs ps rs : List Visit) (x : Refusal) (F : Type 0) → Tie us vs (◌≡◌ {A = Option Refusal} None (Some x)) → Tie (rs ++ (ps ++ us)) vs F
long_two us vs ps rs x F (inl f) = inl (forks_newer (ps ++ us) vs rs [] (forks_newer us vs ps [] f))
long_two us vs ps rs x F (inr s) = no_some x (sym s.1)

abbrev Both : Type 0
Both = ◌≡◌ {A = Option Refusal} None None

module _ (n : Machine) (c g : ℕ) where
  pub owners_tie : (a b : Result Owners Refusal) (us vs : List Visit) → OwnersBy n c g a us → OwnersBy n c g b vs → Tie us vs (a ≡ b)
  owners_tie _ _ _ _ (above h) (above k) = inr (refl, refl)
  owners_tie _ _ _ _ (above h) (no_tables x vs low t) = absurd (omega (arith, h, low))
  owners_tie _ _ _ _ (above h) (no_frames x vs us low t f) = absurd (omega (arith, h, low))
  owners_tie _ _ _ _ (above h) (apart x vs us ws low t f o) = absurd (omega (arith, h, low))
  owners_tie _ _ _ _ (above h) (had vs us ws low t f o) = absurd (omega (arith, h, low))
  owners_tie _ _ _ _ (no_tables x vs low t) (above h) = absurd (omega (arith, h, low))
  owners_tie _ _ _ _ (no_tables x vs low t) (no_tables y qs low' t') = tie_map vs qs _ _ (admits_tie n c _ (Some x) (Some y) vs qs t t') (λ e. ap (λ z. Err z) (some_same x y e))
  owners_tie _ _ _ _ (no_tables x vs low t) (no_frames y qs rs low' t' f') = short vs qs rs x _ (admits_tie n c _ (Some x) None vs qs t t')
  owners_tie _ _ _ _ (no_tables x vs low t) (apart y qs rs ss low' t' f' o') = short_two vs qs rs ss x _ (admits_tie n c _ (Some x) None vs qs t t')
  owners_tie _ _ _ _ (no_tables x vs low t) (had qs rs ss low' t' f' o') = short_two vs qs rs ss x _ (admits_tie n c _ (Some x) None vs qs t t')
  owners_tie _ _ _ _ (no_frames x vs us low t f) (above h) = absurd (omega (arith, h, low))
  owners_tie _ _ _ _ (no_frames x vs us low t f) (no_tables y qs low' t') = long vs qs us y _ (admits_tie n c _ None (Some y) vs qs t t')
  owners_tie _ _ _ _ (no_frames x vs us low t f) (no_frames y qs rs low' t' f') =
      tie_map _ _ _ _ (tie_then vs qs us rs Both _ (admits_tie n c _ None None vs qs t t') (λ e i. admits_tie n c _ (Some x) (Some y) us rs f f')) (λ e. ap (λ z. Err z) (some_same x y e))
  owners_tie _ _ _ _ (no_frames x vs us low t f) (apart y qs rs ss low' t' f' o') =
      short (us ++ vs) (rs ++ qs) ss x _ (tie_then vs qs us rs Both _ (admits_tie n c _ None None vs qs t t') (λ e i. admits_tie n c _ (Some x) None us rs f f'))
  owners_tie _ _ _ _ (no_frames x vs us low t f) (had qs rs ss low' t' f' o') =
      short (us ++ vs) (rs ++ qs) ss x _ (tie_then vs qs us rs Both _ (admits_tie n c _ None None vs qs t t') (λ e i. admits_tie n c _ (Some x) None us rs f f'))
  owners_tie _ _ _ _ (apart x vs us ws low t f o) (above h) = absurd (omega (arith, h, low))
  owners_tie _ _ _ _ (apart x vs us ws low t f o) (no_tables y qs low' t') = long_two vs qs us ws y _ (admits_tie n c _ None (Some y) vs qs t t')
  owners_tie _ _ _ _ (apart x vs us ws low t f o) (no_frames y qs rs low' t' f') =
      long (us ++ vs) (rs ++ qs) ws y _ (tie_then vs qs us rs Both _ (admits_tie n c _ None None vs qs t t') (λ e i. admits_tie n c _ None (Some y) us rs f f'))
  owners_tie _ _ _ _ (apart x vs us ws low t f o) (apart y qs rs ss low' t' f' o') =
      tie_map _ _ _ _
      (tie_then (us ++ vs) (rs ++ qs) ws ss Both _ (tie_then vs qs us rs Both Both (admits_tie n c _ None None vs qs t t') (λ e i. admits_tie n c _ None None us rs f f')) (λ e i. over_tie c _ _ (Some x) (Some y) ws ss o o'))
      (λ e. ap (λ z. Err z) (some_same x y e))
  owners_tie _ _ _ _ (apart x vs us ws low t f o) (had qs rs ss low' t' f' o') =
      tie_map _ _ _ _
      (tie_then (us ++ vs) (rs ++ qs) ws ss Both _ (tie_then vs qs us rs Both Both (admits_tie n c _ None None vs qs t t') (λ e i. admits_tie n c _ None None us rs f f')) (λ e i. over_tie c _ _ (Some x) None ws ss o o'))
      (λ e. no_some x e)
  owners_tie _ _ _ _ (had vs us ws low t f o) (above h) = absurd (omega (arith, h, low))
  owners_tie _ _ _ _ (had vs us ws low t f o) (no_tables y qs low' t') = long_two vs qs us ws y _ (admits_tie n c _ None (Some y) vs qs t t')
  owners_tie _ _ _ _ (had vs us ws low t f o) (no_frames y qs rs low' t' f') =
      long (us ++ vs) (rs ++ qs) ws y _ (tie_then vs qs us rs Both _ (admits_tie n c _ None None vs qs t t') (λ e i. admits_tie n c _ None (Some y) us rs f f'))
  owners_tie _ _ _ _ (had vs us ws low t f o) (apart y qs rs ss low' t' f' o') =
      tie_map _ _ _ _
      (tie_then (us ++ vs) (rs ++ qs) ws ss Both _ (tie_then vs qs us rs Both Both (admits_tie n c _ None None vs qs t t') (λ e i. admits_tie n c _ None None us rs f f')) (λ e i. over_tie c _ _ None (Some y) ws ss o o'))
      (λ e. no_some y (sym e))
  owners_tie _ _ _ _ (had vs us ws low t f o) (had qs rs ss low' t' f' o') =
      tie_map _ _ _ _
      (tie_then (us ++ vs) (rs ++ qs) ws ss Both _ (tie_then vs qs us rs Both Both (admits_tie n c _ None None vs qs t t') (λ e i. admits_tie n c _ None None us rs f f')) (λ e i. over_tie c _ _ None None ws ss o o'))
      (λ e. refl)
