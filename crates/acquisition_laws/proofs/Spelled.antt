-- A kind word is read as it was spelled, where its number and its progress have their places in it.
use Rattle.std.proofs.Common.{◌≡◌, ℕ, ◌/◌, ◌^◌, ◌<◌, ◌&&◌, ◌||◌, refl, ap, ◌∙◌, arith}
use Rattle.std.proofs.lemmas.Bool.Decides.{nat_tests}
use Rattle.xp_words.specs.KindWords.{kind_fields, kind_write}
use Rattle.xp_words.specs.PageTypes.{is_table, type_number, type_of}
use Rattle.xp_words.specs.declared.kind.KindWord.{KindWord}
use Rattle.xp_words.proofs.KindLaws.{type_back}
use Rattle.xp_board.specs.Readings.{is_dead}

module _ (k : KindWord) (number : k.number < 2 ^ 36) (progress : k.progress < 2 ^ 10) where
  kept_back : (kind_fields (kind_write k)).kept ≡ k.kept
  unfolding kind_fields kind_write
  kept_back = grind (arith, nat_tests)

  validated_back : (kind_fields (kind_write k)).validated ≡ k.validated
  unfolding kind_fields kind_write
  validated_back = grind (arith, nat_tests)

  partial_back : (kind_fields (kind_write k)).partial ≡ k.partial
  unfolding kind_fields kind_write
  partial_back = grind (arith, nat_tests)

  locked_back : (kind_fields (kind_write k)).locked ≡ k.locked
  unfolding kind_fields kind_write
  locked_back = grind (arith, nat_tests)

  top_back : kind_write k / 2 ^ 52 ≡ type_number k.kind
  unfolding kind_write
  top_back = grind (arith, nat_tests)

  kind_back : (kind_fields (kind_write k)).kind ≡ k.kind
  unfolding kind_fields
  kind_back = ap (λ (n : ℕ). type_of n) top_back ∙ type_back k.kind

  pub dead_back : is_dead (kind_fields (kind_write k)) ≡ is_dead k
  dead_back = rw (validated_back, partial_back, locked_back) refl

  pub parts_back : ((kind_fields (kind_write k)).kept || (is_dead (kind_fields (kind_write k)) && is_table (kind_fields (kind_write k)).kind)) ≡ (k.kept || (is_dead k && is_table k.kind))
  parts_back = rw (kept_back, dead_back, kind_back) refl
