-- Options and values in turn.
use Rattle.std.proofs.Common.{◌≡◌, ℕ, List, ◌∷◌, Ok, refl}
use Rattle.tks_pack.specs.declared.settings.Settings.{Settings}
use Rattle.tks_pack.specs.Settings.{with_option, with_options}

pub goes : (p q : Settings) (name value : List ℕ) (rest : List (List ℕ)) → with_option p name value ≡ Ok q → with_options p (name ∷ value ∷ rest) ≡ with_options q rest
goes p q name value rest e = rw e refl
