use Rattle.termwiz_screen.proofs.Diffs.Screens.{cut_inside, have_region, whole_gives, need_nothing}
use Rattle.termwiz_screen.proofs.Diffs.NeedWords.{need_is}
use Rattle.termwiz_screen.proofs.laws.need_laws.Goals as goal

pub returns : goal.returns
returns c = record { worded = need_is; inside = cut_inside; region = λ v h w g a b r. have_region a b r v h w g; rows = λ w h a b ra rb. (whole_gives w h a b ra rb, need_nothing w h a b) }
