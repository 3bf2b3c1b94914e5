mod LengthLaws
mod LoadLaws
