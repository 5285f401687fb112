-- Lists by names, where one is put in or taken out.
use Rattle.std.proofs.Common.{◌≡◌, ℕ, ◌==◌, Bool, true, false, cond, ◌&&◌, if◌then◌else◌, List, [], length, Option, Some, None, refl, sym, ap, ◌∙◌}
use Rattle.std.specs.Cmp.Lexicographic.{bytes_decides, nat_list_cmp_total}
use Rattle.std.specs.FinMap as map
use Rattle.tks_share.specs.Names.{order}
use Rattle.tks_share.specs.Maps.{Map}
use Rattle.tks_share.proofs.Alike.{names_alike}
use Rattle.tks_text.specs.Text.{same_text}
use Rattle.tks_bind.specs.Endings.{Key, same_ending}
use Rattle.tks_bind.specs.Groups.{listed, items_in, mapped, map_in, group_in, group_of, Spot, same_spot, list_at}
use Rattle.tks_bind.proofs.Members.{empty_list}

-- what is seen of what stands under a name, where one is put in or taken out
module _ {V W : Type 0} (seen : Option V → W) where
  put : (m : Map V) (name : List ℕ) (v : V) (other : List ℕ) → seen (map.get (map.insert m name v) other) ≡ (if same_text other name then seen (Some v) else seen (map.get m other))
  put m name v other =
      ap seen (map.get-insert nat_list_cmp_total m name v other ∙ ap (λ b. cond b (Some v) (map.get m other)) (names_alike other name))
      ∙ by (same_text other name)
    where
      by : (b : Bool) → seen (cond b (Some v) (map.get m other)) ≡ (if b then seen (Some v) else seen (map.get m other))
      by true = refl
      by false = refl

  taken : (m : Map V) (name : List ℕ) (w : W) (other : List ℕ) → w ≡ seen None → seen (map.get (map.remove m name) other) ≡ (if same_text other name then w else seen (map.get m other))
  taken m name w other h =
      ap seen (map.get-remove nat_list_cmp_total m name other ∙ ap (λ b. cond b None (map.get m other)) (names_alike other name))
      ∙ by (same_text other name)
    where
      by : (b : Bool) → seen (cond b None (map.get m other)) ≡ (if b then w else seen (map.get m other))
      by true = sym h
      by false = refl

module _ {X : Type 0} where
  pub item_put : (m : Map (List X)) (name : List ℕ) (xs : List X) (other : List ℕ)
      → items_in (map.insert m name xs) other ≡ (if same_text other name then xs else items_in m other)
  item_put = put listed

  pub item_taken : (m : Map (List X)) (name : List ℕ) (xs : List X) (other : List ℕ) → (length xs == 0) ≡ true
      → items_in (map.remove m name) other ≡ (if same_text other name then xs else items_in m other)
  item_taken m name xs other h = taken listed m name xs other (empty_list xs h)

  pub map_put : (m : Map (Map X)) (name : List ℕ) (n : Map X) (other : List ℕ)
      → map_in (map.insert m name n) other ≡ (if same_text other name then n else map_in m other)
  map_put = put mapped

  pub map_taken : (m : Map (Map X)) (name : List ℕ) (n : Map X) (other : List ℕ) → map.len n ≡ 0
      → map_in (map.remove m name) other ≡ (if same_text other name then n else map_in m other)
  map_taken m name n other h = taken mapped m name n other (map.empty_of_len n h)

  -- what isn't there
  pub no_group : (m : Map (Map (List X))) (e : Key) → map.get m e.kind ≡ None → group_in m e ≡ []
  no_group m e h = ap (λ o. items_in (mapped o) e.detail) h ∙ ap listed (map.get-empty order e.detail)

  pub no_groups : (m : Map (Map (Map (List X)))) (tag : List ℕ) (e : Key) → map.get m tag ≡ None → group_of m tag e ≡ []
  no_groups m tag e h = ap (λ o. group_in (mapped o) e) h ∙ no_group map.empty e (map.get-empty order e.kind)

  -- a list that is put by its kind and its detail
  pub group_put : (m made : Map (Map (List X))) (lists : Map (List X)) (k : Key) (xs : List X)
      → ((other : List ℕ) → items_in lists other ≡ (if same_text other k.detail then xs else items_in (map_in m k.kind) other))
      → ((other : List ℕ) → map_in made other ≡ (if same_text other k.kind then lists else map_in m other))
      → (e : Key) → group_in made e ≡ (if same_ending e k then xs else group_in m e)
  group_put m made lists k xs inner outer e = ap (λ l. items_in l e.detail) (outer e.kind) ∙ by (same_text e.kind k.kind) refl
    where
      by : (b : Bool) → same_text e.kind k.kind ≡ b → items_in (if b then lists else map_in m e.kind) e.detail ≡ (if b && same_text e.detail k.detail then xs else group_in m e)
      by true t = inner e.detail ∙ ap (λ l. if same_text e.detail k.detail then xs else items_in (map_in m l) e.detail) (sym ((bytes_decides e.kind k.kind).0 t))
      by false t = refl

  -- and by a tag before these
  pub group_put_of : (m made : Map (Map (Map (List X)))) (groups : Map (Map (List X))) (tag : List ℕ) (k : Key) (xs : List X)
      → ((e : Key) → group_in groups e ≡ (if same_ending e k then xs else group_in (map_in m tag) e))
      → ((other : List ℕ) → map_in made other ≡ (if same_text other tag then groups else map_in m other))
      → (other : List ℕ) (e : Key) → group_of made other e ≡ (if same_text other tag && same_ending e k then xs else group_of m other e)
  group_put_of m made groups tag k xs inner outer other e = ap (λ l. group_in l e) (outer other) ∙ by (same_text other tag) refl
    where
      by : (b : Bool) → same_text other tag ≡ b → group_in (if b then groups else map_in m other) e ≡ (if b && same_ending e k then xs else group_of m other e)
      by true t = inner e ∙ ap (λ l. if same_ending e k then xs else group_in (map_in m l) e) (sym ((bytes_decides other tag).0 t))
      by false t = refl

  -- by an ending, and by a name behind it
  pub spot_put : (m made : Map (Map (Map (List X)))) (details : Map (Map (List X))) (lists : Map (List X)) (k : Spot) (xs : List X)
      → ((other : List ℕ) → items_in lists other ≡ (if same_text other k.name then xs else items_in (map_in (map_in m k.ending.kind) k.ending.detail) other))
      → ((other : List ℕ) → map_in details other ≡ (if same_text other k.ending.detail then lists else map_in (map_in m k.ending.kind) other))
      → ((other : List ℕ) → map_in made other ≡ (if same_text other k.ending.kind then details else map_in m other))
      → (s : Spot) → list_at made s ≡ (if same_spot s k then xs else list_at m s)
  spot_put m made details lists k xs inner middle outer s =
      let behind : Key = record { kind = k.ending.detail; detail = k.name } in
      group_put_of m made details k.ending.kind behind xs (group_put (map_in m k.ending.kind) details lists behind xs inner middle) outer
      s.ending.kind (record { kind = s.ending.detail; detail = s.name })

  pub no_list : (s : Spot) → list_at (map.empty {X = Map (Map (List X))} {R = order}) s ≡ []
  no_list s = no_groups map.empty s.ending.kind (record { kind = s.ending.detail; detail = s.name }) (map.get-empty order s.ending.kind)
