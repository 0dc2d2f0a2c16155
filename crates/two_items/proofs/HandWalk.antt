-- Steps of a walk by hand: the end of a context made one entry, and locals that are freed at once.
use Rattle.std.specs.Prelude.{ℕ, List, [], ◌∷◌, ◌++◌}
use seplogic.Ra.Ura.{Ura}
use base.Fraction.{full_share}
use mathlib.Core.Path.{refl}
use mir.Syntax.{Ty}
use mir.Val.{Val}
use base.Logic.{sep, via}
use base.Fml.{fat, froom, fdies}
use prog.Wp.{Heap, Env}
use types.Logic.{Logic}
use types.Kit.{Item, ‵, raw, ⋆, ++⊢, ⊢++, Goal, frees, Step, step, ◌$◌}
use types.Run.{forget, free1, free0}

-- ---- The last entries Δ of a context are made one, and taken apart again.
module _ {M : Type 1} {𝓤 : Ura M} {𝓛 : Logic 𝓤} {K : Type 0} {G : Goal 𝓤 𝓛.H} where
  pub packs : K → (Γ Δ : List (Item 𝓤)) → Step K 𝓛 (Γ ++ (raw (⋆ 𝓛 Δ) ∷ [])) G (Γ ++ Δ) G
  packs t Γ Δ =
      step (λ s. record {
        prf = via 𝓤 (sep 𝓤 (⋆ 𝓛 Γ) (⋆ 𝓛 Δ)) (⊢++ 𝓛 Γ Δ)
            (via 𝓤 (⋆ 𝓛 (Γ ++ (raw (⋆ 𝓛 Δ) ∷ []))) (++⊢ 𝓛 Γ (raw (⋆ 𝓛 Δ) ∷ [])) s.prf);
      })

  pub unpacks : K → (Γ Δ : List (Item 𝓤)) → Step K 𝓛 (Γ ++ Δ) G (Γ ++ (raw (⋆ 𝓛 Δ) ∷ [])) G
  unpacks t Γ Δ =
      step (λ s. record {
        prf = via 𝓤 (sep 𝓤 (⋆ 𝓛 Γ) (⋆ 𝓛 Δ)) (⊢++ 𝓛 Γ (raw (⋆ 𝓛 Δ) ∷ [])) (via 𝓤 (⋆ 𝓛 (Γ ++ Δ)) (++⊢ 𝓛 Γ Δ) s.prf);
      })

-- ---- A local: its type, its place, and the value that it holds, if any.
pub data Cell : Type 0 where
  room : Ty → ℕ → Cell
  full : Ty → ℕ → Val → Cell

module _ {M : Type 1} (𝓤 : Ura M) where
  abbrev pub cells : List Cell → List (Item 𝓤) → List (Item 𝓤)
  cells [] Γ = Γ
  cells (room τ l ∷ cs) Γ = ‵ (froom τ l 0) ∷ ‵ (fdies τ l) ∷ cells cs Γ
  cells (full τ l v ∷ cs) Γ = ‵ (fat full_share τ l 0 v) ∷ ‵ (fdies τ l) ∷ cells cs Γ

  abbrev pub env_of : (H : Heap 𝓤) → List Cell → Env 𝓤 H
  env_of H [] = []
  env_of H (room τ l ∷ cs) = (τ, l) ∷ env_of H cs
  env_of H (full τ l v ∷ cs) = (τ, l) ∷ env_of H cs

-- they are freed, whatever they hold
pub freed : {M : Type 1} {𝓤 : Ura M} {𝓛 : Logic 𝓤} {K : Type 0} {Γ : List (Item 𝓤)} {G : Goal 𝓤 𝓛.H} → K
    → (cs : List Cell) → Step K 𝓛 Γ G (cells 𝓤 cs Γ) (frees (env_of 𝓤 𝓛.H cs) G)
freed t [] = free0 t
freed t (room τ l ∷ cs) = step (λ s. free1 t $ freed t cs $ s)
freed t (full τ l v ∷ cs) = step (λ s. forget t 0 refl $ free1 t $ freed t cs $ s)
