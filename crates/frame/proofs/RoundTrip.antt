-- The round trip: each sound message has one sound frame, each sound frame one sound message, and each is read back from the other. Assumes nothing.
use mathlib.Core.Path.{◌∙◌, ap, sym}
use Rattle.frame.proofs.Reading.{decode-same, decode-sound, encode-decode}
use Rattle.frame.proofs.Written.{decode-encode, encode-most, encode-sound, few_121, length-encode}
use Rattle.frame.specs.Frame.{decode, encode}
use Rattle.frame.specs.RoundTrip.{RoundTrip}

pub round_trip : RoundTrip
round_trip =
    record {
      sound = encode-sound;
      entries = few_121;
      size = λ m _. length-encode m;
      most = encode-most;
      read_back = decode-encode;
      reads = decode-sound;
      same = decode-same;
      written_again = encode-decode;
      one_frame = λ n s t f g e. sym (encode-decode n s f) ∙ ap encode e ∙ encode-decode n t g;
      one_message = λ m k f g e. sym (decode-encode m f) ∙ ap decode e ∙ decode-encode k g;
    }
