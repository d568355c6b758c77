-- What holds of the slice and the DNN that the definition gives.
use Rattle.std.proofs.Common.{◌≡◌, false, cond, None, Option, option_map, sym, ap, ◌∙◌}
use Rattle.codes.specs.declared.request_type.RequestType.TheVariants.{Initial}
use Rattle.codes.specs.declared.slice_dnn.SliceDnn.{SliceDnn}
use Rattle.stores.specs.declared.context.Context.{Context}
use Rattle.records.specs.Firsts.{default_slice, default_dnn}
use Rattle.verdicts.specs.Cases.{Asked, requests, for_emergency}
use Rattle.verdicts.specs.Used.{kept, slice_used, first_of, common_used, used, Uses}

module _ (a : Asked) (o : Option Context) (u : SliceDnn) (e : u ≡ used a o) where
  common : for_emergency a ≡ false → u ≡ common_used a (kept a o)
  common f = e ∙ ap (λ b. cond b a.configuration.emergency (common_used a (kept a o))) f

  held : requests Initial a ≡ false → kept a o ≡ o
  held f = ap (λ b. cond b None o) f

  pub uses : Uses a o u
  uses = record {
    value = e;
    emergency = λ f. e ∙ ap (λ b. cond b a.configuration.emergency (common_used a (kept a o))) f;
    named_slice = λ f s q. ap (λ (w : SliceDnn). w.slice) (common f) ∙ ap (λ n. first_of n (option_map (λ c. c.slice) (kept a o)) (default_slice a.ue) a.configuration.default.slice) q;
    named_dnn = λ f n q. ap (λ (w : SliceDnn). w.dnn) (common f) ∙ ap (λ d. first_of d (option_map (λ c. c.dnn) (kept a o)) (default_dnn a.ue (slice_used a (kept a o))) a.configuration.default.dnn) q;
    kept_slice = λ f g x q r. ap (λ (w : SliceDnn). w.slice) (common f) ∙ (λ i. first_of (r i) (option_map (λ c. c.slice) ((held g ∙ q) i)) (default_slice a.ue) a.configuration.default.slice);
    kept_dnn = λ f g x q r. ap (λ (w : SliceDnn). w.dnn) (common f) ∙ (λ i. first_of (r i) (option_map (λ c. c.dnn) ((held g ∙ q) i)) (default_dnn a.ue (slice_used a (kept a o))) a.configuration.default.dnn);
    initial = λ f. e ∙ (λ i. cond (for_emergency a) a.configuration.emergency (common_used a (cond (f i) None o))) ∙ sym (λ i. cond (for_emergency a) a.configuration.emergency (common_used a (cond (f i) None None)));
  }
