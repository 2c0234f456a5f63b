mod LengthCodes
