-- The octets of names that own them, and of lent ones.
use Rattle.std.specs.Prelude.{◌≡◌, ℕ, List, vec_items}
use Rattle.std.specs.Borrow.{Bor}
use Rattle.names.specs.declared.name.Name.{Name}
use Rattle.codes.specs.declared.setup_error.SetupError.{SetupError}
use Rattle.codes.specs.declared.setup_error.SetupError.TheVariants.{Refused, OutOfMemory}
use Rattle.codes.specs.declared.refusal.Refusal.TheVariants.{Opening}
use Rattle.codes.specs.Refusals.{refusal_number}
use Rattle.names.specs.Names.{names_of, GoodNames}

abbrev pub own_names : List Name → List (List ℕ)
own_names ns = names_of (λ n. vec_items n.octets) ns

abbrev pub lent_names : List (Bor (List ℕ)) → List (List ℕ)
lent_names ns = names_of (λ n. n.now) ns

-- a book with these names of its own is made for good names, which they are
pub record Made (names own : List (List ℕ)) : Type 0 where
  pub good : GoodNames names
  pub same : own ≡ names

-- bad names are refused, and only for good ones is memory wanted
abbrev pub Unmade : List (List ℕ) → SetupError → Type 0
Unmade names (Refused r) = (refusal_number r ≡ refusal_number Opening) × (GoodNames names → ⊥)
Unmade names OutOfMemory = GoodNames names
