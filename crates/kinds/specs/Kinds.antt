-- A value kind: which codes are values of it, and how two of them join into one.
-- The laws are part of it, so every kind is lawful.
use Rattle.std.specs.Prelude.{◌≡◌, ℕ, ◌^◌, ◌<◌, Bool, true}

pub record ValueKind : Type 0 where
  pub fits : ℕ → Bool
  pub join : ℕ → ℕ → ℕ
  pub narrow : (a : ℕ) → fits a ≡ true → a < 2 ^ 64
  pub closed : (a b : ℕ) → fits a ≡ true → fits b ≡ true → fits (join a b) ≡ true
  pub associates : (a b c : ℕ) → fits a ≡ true → fits b ≡ true → fits c ≡ true → join (join a b) c ≡ join a (join b c)
  pub commutes : (a b : ℕ) → fits a ≡ true → fits b ≡ true → join a b ≡ join b a
  pub idempotent : (a : ℕ) → fits a ≡ true → join a a ≡ a
